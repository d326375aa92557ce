-- `list_view::seen::sizes_seen` meets its contract: of a list, the two bodies and load's count are the sizes.
use Rattle.std.proofs.Common.{◌∙◌, ap, ℕ}
use Rattle.model.specs.declared.ListSizes.{ListSizes}
use Rattle.list_view.specs.declared.Sizes.{Sizes}
use Rattle.list_view.proofs.Loads.{sizes_read}
use Rattle.list_view.proofs.seen.sizes_seen.Goals as goal

abbrev as_sizes : (rules : ℕ) → Sizes → ListSizes
as_sizes n s = record { number = 0; symbols = s.letters; states = s.states; rules = n }

pub returns : goal.returns
returns c = ap (as_sizes c.in-Some.rules) c.sizes_in-sizes.ensures ∙ sizes_read c.args.bytes.now c.in-Some.rules c.in-Some.ensures
