-- Every promise about records and scripts as text at once (§8): one record, of which proofs/All.antt has the one value.
use Rattle.text.specs.Promise.{FirstLine, ReadExactly, RoundTrip, ScriptIsRun, PlaceTold}
use Rattle.text.specs.Worked.{ScriptRuns}

pub record Promised : Type 0 where
  -- records as text
  pub first_line : FirstLine
  pub read_exactly : ReadExactly
  pub round_trip : RoundTrip
  -- a script
  pub script_is_run : ScriptIsRun
  pub place_told : PlaceTold
  -- the worked run and the corners
  pub script_runs : ScriptRuns
