-- A record put down, as lists: the lists with the context mean the tables with it, and the step from there ends as putting down does.
-- The store with the context's rows extends the first, so roles stand as they were, new rows are unknown, and the context has a hole, as row 0 has.
use mathlib.Core.Path.{◌≡◌, sym, ap, subst, ◌∙◌}
use mathlib.Core.Logic.{◌⊎◌, inl, inr}
use mathlib.Core.Bool.{Bool, true, false, cond}
use mathlib.Core.List.{List, [], ◌∷◌, ◌++◌}
use Prim.Native.Nat.{ℕ, suc, ◌+◌, ◌-◌, ◌*◌, ◌≤◌, ◌<◌}
use native.Mathlib.Omega.{arith}
use lib.ListN.{length, take, drop, set, length-append}
use lib.Seq.{length-take-le, set_split, append_snoc}
use Rattle.model.specs.Limits.{row_width, most_contexts, most_rules}
use Rattle.model.specs.Base.{In, among, over}
use Rattle.model.specs.Store.{Store, Frame, Built, full, built, used, fill}
use Rattle.model.specs.Table.{Tables}
use Rattle.model.specs.Steps.{Ended, short, asks, proposes, blanked, settled, put_tables, put_by, put_down}
use Rattle.model.specs.Facts.{IsContext}
use Rattle.model.specs.Entry.{Arrays, tables_of, lists_of, lists_fit}
use Rattle.model.specs.declared.Lists.{Lists}
use Rattle.model.specs.declared.refusal.Refusal.{Refusal}
use Rattle.model.specs.declared.refusal.Refusal.TheVariants.{RowsShort}
use Rattle.model.specs.Refusals.{refused_by}
use Rattle.model.proofs.Laws.Lists.{in_snoc}
use Rattle.model.proofs.Laws.Rows.{record_ext, context_ext}
use Rattle.model.proofs.Laws.Down.{hole_has}
use Rattle.model.proofs.Laws.Settle.{past}
use Rattle.model.proofs.Laws.Lent.{take_over, over_take, good_four, lists_fit_facts, lists_fit_true, lists_of_within}
use Rattle.bank.specs.Bank.{Bank, Kept}
use Rattle.bank.proofs.Laws.Words.{used_of, front_with_rows}
use Rattle.std.specs.Prelude.{Result, Ok, Err, None}
use Rattle.bank_fill.proofs.Laws.Coming.{Comes, store_room}
use Rattle.bank_fill.proofs.Laws.Filling.{Reached}
use Rattle.bank_fill.specs.Left.{Left}
use Rattle.bank_fill.proofs.Laws.Left.{left_rows, left_then}
use Rattle.run_lists.specs.Members.{counts_in, contexts_in}
use Rattle.run_lists.specs.Changes.{with_context}
use Rattle.run_lists.specs.Run.{Orderly, Run}
use Rattle.run_lists.proofs.Laws.Arrays.{few_letters, few_states, few_rules, letters_told, states_told, rules_told}
use Rattle.run_lists.proofs.Laws.Lists.{lists_twice}
use Rattle.table.specs.Answers.{Forgotten}
use Rattle.table.proofs.Laws.Known.{forgotten_known}
use Rattle.step_settle.specs.Stepped.{KnownTable}
use Rattle.step_settle.proofs.Laws.Lists.{kept_then, kept_length, kept_over, tables_left}
use Rattle.step_settle.proofs.Laws.Ends.{Ends, ends_by, Grows, Settles, settles_asking, settles_proposing, settles}

-- ROWS RAN OUT
pub put_none : (ws : List ℕ) (l : Lists) (fs : List Frame) (r : Result Lists Refusal) {us ix : List ℕ} → Comes ws (counts_in l) l.used (fill (tables_of ws l).store fs 0) None us ix →
    r ≡ Err RowsShort → Ends ws l (put_down (tables_of ws l) fs) r us
put_none ws l fs r {us} {ix} c e = go (fill (tables_of ws l).store fs 0) c
  where
    go : (b : Built) → Comes ws (counts_in l) l.used b None us ix → Ends ws l (put_by (tables_of ws l) b) r us
    go full d = record { ended = (ap refused_by e, d.came.1) }
    go (built j y) d = let p = d.came.0 in let z : ◌≡◌ {A = ℕ} 0 1 = cc in absurd (omega arith)

-- A MEMBER APPENDED to the first m of an array if it is absent
more_count : (b : Bool) (m i : ℕ) (xs : List ℕ) → m < length xs → cond b m (m + 1) ≡ length (cond b (take m xs) (take m xs ++ (i ∷ [])))
more_count true m i xs h = sym (length-take-le m xs (omega arith))
more_count false m i xs h =
    let e = length-take-le m xs (omega arith) in
    let f = length-append (take m xs) (i ∷ []) in
    omega arith

more_few : (b : Bool) (m i : ℕ) (xs : List ℕ) → m < length xs → length (cond b (take m xs) (take m xs ++ (i ∷ []))) ≤ m + 1
more_few true m i xs h = omega (arith, more_count true m i xs h)
more_few false m i xs h = omega (arith, more_count false m i xs h)

more_array : (b : Bool) (m i : ℕ) (xs : List ℕ) → m < length xs → cond b xs (set xs m i) ≡ over (cond b (take m xs) (take m xs ++ (i ∷ []))) xs
more_array true m i xs h = sym (over_take m xs (omega arith))
more_array false m i xs h =
    let e : suc m ≡ length (take m xs ++ (i ∷ [])) = let c = more_count false m i xs h in omega arith in
    set_split xs m i h ∙ sym (append_snoc (take m xs) i (drop (suc m) xs)) ∙ ap (λ (k : ℕ). (take m xs ++ (i ∷ [])) ++ drop k xs) e

more_in : (b : Bool) (i : ℕ) (xs : List ℕ) {k : ℕ} → In k (cond b xs (xs ++ (i ∷ []))) → In k xs ⊎ (k ≡ i)
more_in true i xs h = inl h
more_in false i xs h = in_snoc xs h

-- THE TABLES with a context of a store built
module _ {ws : List ℕ} {l : Lists} (run : Run ws l) (a : Arrays l) (room : l.contexts < most_contexts) {fs : List Frame} {j n : ℕ} {us ix' : List ℕ}
    (d : Reached ws (counts_in l) l.used fs 0 j n us ix') where
  abbrev X : Tables
  X = tables_of ws l

  abbrev Y : Tables
  Y = put_tables (tables_of ws l) (tables_of ws l).t j d.y

  within : l.contexts < length l.c
  within = omega (arith, a.c)

  lists_after : with_context l j n ≡ lists_of l Y
  lists_after =
      let b : Bool = among j (contexts_in l) in
      λ i. record {
        letters = kept_length l.letters l.counts d.filled.ext.counts (few_letters run.fit a) i;
        counts = kept_over l.letters l.counts d.filled.ext.counts (few_letters run.fit a) i;
        accepted = 0;
        used = d.stands.count i;
        states = states_told run.fit a i;
        s = sym (over_take l.states l.s (few_states run.fit a)) i;
        rules = rules_told run.fit a i;
        t = sym (over_take l.rules l.t (few_rules run.fit a)) i;
        contexts = more_count b l.contexts j l.c within i;
        c = more_array b l.contexts j l.c within i;
        hand = 0;
        asked = 0;
      }

  left_after : Left ws (counts_in l) us Y.store Y.answers
  left_after =
      let y : Store = d.y in
      subst (λ (vs : List ℕ). Left ws (counts_in l) vs y (blanked X.store y X.answers)) (sym d.stands.words)
      (left_rows ws (counts_in l) l.used y d.filled.ext (good_four y d.filled.good) (store_room ws (counts_in l) l.used y d.filled.ext d.filled.good))

  kept_after : Kept ws l.used us
  kept_after =
      let y : Store = d.y in
      record {
        same_size = left_after.same_size;
        same_rows =
            ap (take (row_width * l.used)) d.stands.words ∙
            front_with_rows ws (counts_in l) l.used y d.filled.ext (good_four y d.filled.good) (store_room ws (counts_in l) l.used y d.filled.ext d.filled.good);
      }

  is_context_law : IsContext d.y j
  is_context_law = record { within = d.filled.within; hole = d.filled.hole ∙ hole_has X.store }

  orderly_after : Orderly Y
  orderly_after =
      let y : Store = d.y in
      let x = run.orderly in
      record {
        good = d.filled.good;
        bound = λ i. subst (λ (v : ℕ). v ≤ 2) (sym (past X.answers (used y - used X.store) i)) (x.bound i);
        row = λ i h. record_ext X.store y x.good d.filled.ext i (x.row i h);
        context = λ c h. context_case c (more_in (among j X.c) j X.c h);
        among = x.among;
      }
    where
      context_case : (c : ℕ) → In c X.c ⊎ (c ≡ j) → IsContext d.y c
      context_case c (inl h) = context_ext X.store d.y run.orderly.good d.filled.ext c (run.orderly.context c h)
      context_case c (inr e) = subst (IsContext d.y) (sym e) is_context_law

  means_after : tables_of us (lists_of l Y) ≡ Y
  means_after = tables_left ws us l Y d.filled.ext.counts left_after

  counts_after : counts_in (lists_of l Y) ≡ counts_in l
  counts_after = take_over Y.store.counts l.counts ∙ d.filled.ext.counts

  fit_after : lists_fit (lists_of l Y) ≡ true
  fit_after =
      let f = lists_fit_facts l run.fit in
      let k = more_few (among j X.c) l.contexts j l.c within in
      let c : length Y.c ≤ most_contexts = omega (arith, k, room) in
      let b = ap length d.filled.ext.counts ∙ sym (letters_told run.fit a) in
      let s = states_told run.fit a in
      let t = rules_told run.fit a in
      lists_fit_true (lists_of l Y) (lists_of_within l Y (omega (arith, f.letters)) (omega (arith, f.states)) (omega (arith, f.rules)) c)

  pub bank_after : (left : Lists) → left ≡ with_context l j n → Bank us (counts_in left) left.used ix'
  bank_after left e =
      let r : Bank us (counts_in l) (used d.y) ix' = subst (λ (k : ℕ). Bank us (counts_in l) k ix') d.stands.count d.stands.bank in
      subst (λ (k : Lists). Bank us (counts_in k) k.used ix') (sym (e ∙ lists_after))
      (subst (λ (ns : List ℕ). Bank us ns (used d.y) ix') (sym counts_after) r)

  pub run_after : (left : Lists) → left ≡ with_context l j n → Run us left
  run_after left e = subst (Run us) (sym (e ∙ lists_after)) (record { fit = fit_after; orderly = subst Orderly (sym means_after) orderly_after })

  -- of the table no row is known, after it was forgotten
  pub few_after : (left : Lists) → left ≡ with_context l j n → left.rules ≤ most_rules
  few_after left e = (lists_fit_facts left (run_after left e).fit).rules

  pub long_after : (left : Lists) → left ≡ with_context l j n → (tb : List ℕ) → most_contexts * l.rules ≤ length tb → most_contexts * left.rules ≤ length tb
  long_after left e tb h = omega (arith, ap (λ (k : Lists). k.rules) e)

  pub known_after : (left : Lists) → left ≡ with_context l j n → {tb : List ℕ} → Forgotten left.rules tb → most_contexts * l.rules ≤ length tb → KnownTable us left tb
  known_after left e {tb} f h =
      let x = tables_of us left in
      forgotten_known x.store x.answers left.t left.rules left.c left.contexts f (long_after left e tb h) (few_after left e) (lists_fit_facts left (run_after left e).fit).contexts

  -- ONWARD from the lists with the context
  onward_lists : (z : Tables) → Grows Y z → lists_of (lists_of l Y) z ≡ lists_of l z
  onward_lists z g = lists_twice l Y z (omega (arith, ap length g.counts)) g.longer (omega (arith, ap length g.same_t)) (omega (arith, ap length g.same_c))

  onward_left : (z : Tables) (vs : List ℕ) → Grows Y z → Left us (counts_in (lists_of l Y)) vs z.store z.answers → Left ws (counts_in l) vs z.store z.answers
  onward_left z vs g f =
      left_then ws (counts_in l) us vs Y.store z.store Y.answers z.answers left_after
      (subst (λ (ns : List ℕ). Left us ns vs z.store z.answers) counts_after f) g.rows

  onward : (e : Ended) → Settles Y e → {r : Result Lists Refusal} {vs : List ℕ} → Ends us (lists_of l Y) e r vs → Ends ws l e r vs
  onward (short k) s {r} {vs} b =
      record { ended = (b.ended.0, kept_then ws l.used us (used d.y) vs (omega (arith, d.filled.ext.more, used_of ws (counts_in l) l.used)) kept_after b.ended.1) }
  onward (asks z) (settles_asking g) {r} {vs} b = record { ended = (b.ended.0 ∙ ap Ok (onward_lists z g), onward_left z vs g b.ended.1) }
  onward (proposes z) (settles_proposing g) {r} {vs} b = record { ended = (b.ended.0 ∙ ap Ok (onward_lists z g), onward_left z vs g b.ended.1) }

  pub put_ends : (left : Lists) → left ≡ with_context l j n → (r : Result Lists Refusal) (vs : List ℕ) → Ends us left (settled (tables_of us left)) r vs → Ends ws l (put_down (tables_of ws l) fs) r vs
  put_ends left e r vs b =
      let c : Ends us (lists_of l Y) (settled (tables_of us (lists_of l Y))) r vs = subst (λ (k : Lists). Ends us k (settled (tables_of us k)) r vs) (e ∙ lists_after) b in
      ends_by (ap (put_by X) d.is) (onward (settled Y) (settles Y orderly_after) (ends_by (ap settled (sym means_after)) c))
