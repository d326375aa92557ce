-- Every promise about text kept, each by the term of its own file.
use Rattle.text.specs.Promised.{Promised}
use Rattle.text.proofs.Worked.{script_runs}
use Rattle.text.proofs.Runs.{script_is_run}
use Rattle.text.proofs.Places.{place_told}
use Rattle.text.proofs.Promises.{first_line, read_exactly, round_trip}

pub promised : Promised
promised =
    record {
      first_line = first_line;
      read_exactly = read_exactly;
      round_trip = round_trip;
      script_is_run = script_is_run;
      place_told = place_told;
      script_runs = script_runs;
    }
