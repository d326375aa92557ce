-- Every promise of the view kept, each by the term of its own file.
use Rattle.list_view.specs.Promised.{Promised}
use Rattle.list_view.proofs.Views.{view_shows}
use Rattle.list_view.proofs.Wholes.{seen_whole}

pub promised : Promised
promised = record { shows = view_shows; seen_whole = seen_whole }
