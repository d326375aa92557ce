-- What was said, taken (§3.4, §3.5): its mark, the row that the mark is for, the lists that the step is given.
use Rattle.std.specs.Prelude.{List, [], ℕ}
use Rattle.model.specs.Store.{Built, built}
use Rattle.model.specs.Terms.{store_from}
use Rattle.model.specs.Table.{Tables}
use Rattle.model.specs.declared.Lists.{Lists}
use Rattle.run_lists.specs.Changes.{closed, taken_up}
use Rattle.call.specs.declared.Said.{Said}

abbrev pub mark_of : Said → ℕ
mark_of (Said.Answer m) = m
mark_of (Said.Offer m) = m

-- the row asked about, or that of the record offered, which is stored
abbrev pub built_for : Tables → Said → (symbols : List ℕ) → Built
built_for x (Said.Answer m) xs = built x.asked x.store
built_for x (Said.Offer m) xs = store_from x.store xs []

-- the question closed, or the record in hand
abbrev pub given_by : Lists → Said → (row used : ℕ) → Lists
given_by l (Said.Answer m) i n = closed l
given_by l (Said.Offer m) i n = taken_up l i n
