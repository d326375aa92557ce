-- Start and every call leave lists whose arrays have the lengths of §2.2.
-- What is written over an array is as long as the count that is left, and that fits.
use mathlib.Core.Path.{◌≡◌, refl, sym, ap, ◌∙◌, subst}
use mathlib.Core.Bool.{Bool, true, false}
use mathlib.Core.List.{List}
use Prim.Native.Nat.{ℕ}
use native.Mathlib.Omega.{arith}
use Rattle.model.specs.Table.{Tables}
use Rattle.model.specs.Calls.{Call, Outcome, started}
use Rattle.model.specs.Entry.{Arrays, rows_lent, lists_fit, lists_of, zero_lists, zeroed_by, start_number, start_lists}
use Rattle.model.specs.Run.{Lent, meant, after_call, is_taken}
use Rattle.model.specs.declared.Lists.{Lists}
use Rattle.model.proofs.Laws.Lent.{length_over, lists_fit_facts, start_leaves, start_lists_fit}
use Rattle.model.proofs.Laws.Taken.{is_taken_law, leaves_after}
use Rattle.model.proofs.Laws.Sounds.{sound_facts}
use Rattle.model.proofs.Laws.Along.{along}
use Rattle.model.proofs.Promises.Calls.{refused_untouched}

-- tables written over lists
over_arrays : (l : Lists) (y : Tables) → Arrays l → lists_fit (lists_of l y) ≡ true → Arrays (lists_of l y)
over_arrays l y a e =
    let f = lists_fit_facts (lists_of l y) e in
    record {
      counts = length_over y.store.counts l.counts (omega (arith, a.counts, f.letters)) ∙ a.counts;
      s = length_over y.s l.s (omega (arith, a.s, f.states)) ∙ a.s;
      t = length_over y.t l.t (omega (arith, a.t, f.rules)) ∙ a.t;
      c = length_over y.c l.c (omega (arith, a.c, f.contexts)) ∙ a.c;
    }

zero_arrays : Arrays zero_lists
zero_arrays = record { counts = refl; s = refl; t = refl; c = refl }

pub start_arrays : (ws ns : List ℕ) (old : Lists) → start_number ws ns ≡ 0 → Arrays (start_lists ws ns old)
start_arrays ws ns old h =
    let e = start_leaves ws ns h in
    rw e (over_arrays zero_lists (started (rows_lent ws) ns) zero_arrays (ap (λ (o : Outcome). lists_fit (zeroed_by old o)) (sym e) ∙ start_lists_fit ws ns h old))

pub call_arrays : (l : Lent) (k : Call) → Arrays l.lists → Arrays (after_call l k).lists
call_arrays l k a = go (is_taken l k) refl
  where
    go : (b : Bool) → is_taken l k ≡ b → Arrays (after_call l k).lists
    go false e = subst (λ (m : Lent). Arrays m.lists) (sym (refused_untouched l k e)) a
    go true e =
        let t = is_taken_law l k e in
        let y = t.taken.left in
        let q = leaves_after l k y t.outcome in
        let w = along l (sound_facts (meant l) t.taken.sound) k e in
        subst (λ (m : Lent). Arrays m.lists) (sym q) (over_arrays l.lists y a (ap (λ (m : Lent). lists_fit m.lists) (sym q) ∙ w.lists))
