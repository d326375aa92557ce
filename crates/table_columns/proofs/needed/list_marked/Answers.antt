-- `needed::list_marked` meets its contract, by the laws of Needed: the hole child of a marked row has its position already.
use Rattle.std.proofs.Common.{◌≡◌, sym, ap, subst, ◌∙◌, ℕ, List, ◌+◌, ◌-◌, ◌/◌, arith}
use Rattle.model.specs.Store.{Store}
use Rattle.model.specs.Entry.{store_of}
use Rattle.bank.specs.Notes.{room_in}
use Rattle.table_columns.specs.Columns.{hole_kid}
use Rattle.table_columns.specs.Notes.{needed_more, mark_note}
use Rattle.table_columns.proofs.Laws.Needed.{Listing, listing_clear, listing_more}
use Rattle.table_columns.proofs.needed.list_marked.Goals as goal
use Rattle.table_columns.proofs.needed.list_marked.Goals.{then-notes-last-ne0, else-notes-last-ne0}

pub loop-i-preserved : goal.loop-i-preserved
loop-i-preserved c =
    let a = c.args in
    let l = c.loop-i in
    let x : Store = store_of a.bank.now.words a.bank.now.counts a.bank.now.used in
    let z : ℕ = room_in a.notes.now in
    let ms : List ℕ = a.notes.now in
    let at : l.i - 1 + 1 ≡ l.i = omega arith in
    let next : l.i ≡ l.i + 1 - 1 = omega arith in
    elim c.if-notes-last-ne0.branch [
      | then-notes-last-ne0 w ↦
          let kid = w.hole_kid-kid.result.0 in
          let own : mark_note z l.notes (l.i - 1 + 1) ≡ 0 → ⊥ = λ o. w.if-notes-last-ne0.true (ap (mark_note z l.notes) (sym at) ∙ o) in
          let more = listing_more c.used-i-end.ensures.ready l.invariant c.requires.0 c.requires.1 (omega (arith, at, c.loop-i-test.true)) own kid (w.hole_kid-kid.ensures.kid.0 ∙ ap (hole_kid x a.bank.now.index) (sym at)) c.requires.4 (omega (arith, l.auto.notes)) in
          let put : w.put_needed.new.notes ≡ needed_more z l.notes (l.n + 1) l.i kid = w.put_needed.ensures ∙ ap (λ (m : ℕ). needed_more (m / 4) l.notes (l.n + 1) l.i kid) l.auto.notes in
          let listed : Listing x a.bank.now.index z ms (needed_more z l.notes (l.n + 1) l.i kid) l.i (l.n + 1) = subst (λ (i : ℕ). Listing x a.bank.now.index z ms (needed_more z l.notes (l.n + 1) i kid) i (l.n + 1)) at more in
          rw (w.notes-is, put, w.n-is, ← next) listed
      | else-notes-last-ne0 w ↦
          let clear = listing_clear l.invariant (ap (mark_note z l.notes) at ∙ w.if-notes-last-ne0.false) in
          let listed : Listing x a.bank.now.index z ms l.notes l.i l.n = subst (λ (i : ℕ). Listing x a.bank.now.index z ms l.notes i l.n) at clear in
          rw (w.notes-is, w.n-is, ← next) listed
    ]
