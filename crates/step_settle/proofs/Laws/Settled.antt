-- Nothing in hand: the first gap of the table is the first unknown answer, so settling asks about the gap's context filled with its transition;
-- where the table has no gap, S grows by it as by the store. The lists left are those of the tables.
use mathlib.Core.Path.{◌≡◌, refl, sym, ap, subst, ◌∙◌}
use mathlib.Core.Bool.{true, false}
use mathlib.Core.List.{List}
use mathlib.Core.Option.{none, some}
use mathlib.Core.Option as maybe
use Prim.Native.Nat.{ℕ, ◌≤◌, ◌<◌}
use native.Mathlib.Omega.{arith}
use lib.Dec.{eqb}
use lib.ListN.{length, get_or}
use lib.Seq.{take-length}
use Rattle.std.proofs.Common.{Option, None, Some, Result, Ok}
use Rattle.model.specs.Limits.{most_contexts}
use Rattle.model.specs.Base.{all_among, over}
use Rattle.model.specs.Store.{has_hole, frames_of, fill}
use Rattle.model.specs.Table.{Tables, tables, row_of}
use Rattle.model.specs.Steps.{Sought, seek, grow, proposed, settled_by, settled}
use Rattle.model.specs.Facts.{IsContext, Fits}
use Rattle.model.specs.Entry.{Arrays, store_of, answers_in, tables_of, lists_of}
use Rattle.model.specs.declared.Lists.{Lists}
use Rattle.model.specs.declared.refusal.Refusal.{Refusal}
use Rattle.model.specs.Refusals.{refused_by}
use Rattle.model.proofs.Laws.Lists.{at_place, members_in, each_from}
use Rattle.model.proofs.Laws.Down.{context_fits}
use Rattle.model.proofs.Laws.ReflectLists.{context_back}
use Rattle.model.proofs.Laws.Lent.{over_take, lists_fit_facts}
use Rattle.bank.proofs.Laws.Words.{used_of, answer_in_law}
use Rattle.bank_fill.specs.declared.add.Added.{Added}
use Rattle.bank_fill.proofs.Laws.Coming.{Comes}
use Rattle.bank_fill.proofs.Laws.Left.{left_same}
use Rattle.run_lists.specs.Members.{counts_in, states_in, rules_in, contexts_in}
use Rattle.run_lists.specs.Changes.{proposing}
use Rattle.run_lists.specs.Run.{Run}
use Rattle.run_lists.proofs.Laws.Arrays.{few_letters, few_rules, few_contexts, letters_told, rules_told, contexts_told}
use Rattle.table.specs.Answers.{Sized, Observed, KnownRows, ToGap, gap_from, sought_by}
use Rattle.table.specs.declared.Gap.{Gap}
use Rattle.table.proofs.Laws.ToGap.{sought_to_gap}
use Rattle.table_columns.specs.Columns.{Answered, Contexts, Used}
use Rattle.table_answers.proofs.Laws.Cut.{known_cut, observed_whole}
use Rattle.step_settle.specs.Stepped.{KnownTable, GrownAs, ProposedAs, OpenedAs}
use Rattle.step_settle.proofs.Laws.Gap.{Within, gap_within}
use Rattle.step_settle.proofs.Laws.Ends.{Ends, ends_by, handed, question_ends}

-- WHAT WORKING OUT THE TABLE NEEDS, and proposing: S is in T
module _ {ws : List ℕ} {l : Lists} (run : Run ws l) where
  pub answered : Answered ws l.used
  answered i b = subst (λ (v : ℕ). v ≤ 2) (answer_in_law l.used i ws b) (run.orderly.bound i)

  pub used_rules : Used l.used (rules_in l) (length (rules_in l))
  used_rules k b =
      let n = (run.orderly.row (get_or (rules_in l) k 0) (at_place (rules_in l) k b)).within in
      omega (arith, n, used_of ws (counts_in l) l.used)

  pub are_contexts : Contexts (tables_of ws l).store (contexts_in l) (length (contexts_in l))
  are_contexts j b = context_back (tables_of ws l).store (get_or (contexts_in l) j 0) (run.orderly.context (get_or (contexts_in l) j 0) (at_place (contexts_in l) j b))

  pub states_among : all_among (states_in l) (rules_in l) ≡ true
  states_among = members_in (rules_in l) (each_from (states_in l) run.orderly.among)

  module _ (a : Arrays l) where
    pub contexts_few_law : length (contexts_in l) ≤ most_contexts
    contexts_few_law = omega (arith, (lists_fit_facts l run.fit).contexts, contexts_told run.fit a)

    pub known : {tb : List ℕ} → KnownTable ws l tb →
        KnownRows (tables_of ws l).store (tables_of ws l).answers (rules_in l) (length (rules_in l)) (contexts_in l) (length (contexts_in l)) tb
    known {tb} k = known_cut (tables_of ws l).store (tables_of ws l).answers l.t l.rules l.c l.contexts (few_rules run.fit a) (few_contexts run.fit a) tb k

-- THE TABLE worked out up to its first gap
pub record Worked (ws : List ℕ) (l : Lists) (tb : List ℕ) (rows : ℕ) : Type 0 where
  pub to_gap : ToGap (tables_of ws l).store (tables_of ws l).answers (rules_in l) (length (rules_in l)) (contexts_in l) (length (contexts_in l)) tb rows

-- by the members as the methods of the lists give them
pub worked : {ws : List ℕ} {l : Lists} {ns t c tb : List ℕ} {rows : ℕ} → ns ≡ counts_in l → t ≡ rules_in l → c ≡ contexts_in l →
    ToGap (store_of ws ns l.used) (answers_in l.used ws) t (length t) c (length c) tb rows → Worked ws l tb rows
worked e f h g = record { to_gap = rw (e, f, h) at g }

module _ {ws : List ℕ} {l : Lists} (run : Run ws l) (a : Arrays l) {tb : List ℕ} {rows : ℕ} (w : Worked ws l tb rows) where
  told : length (contexts_in l) ≡ l.contexts
  told = sym (contexts_told run.fit a)

  module _ {p : Option Gap} (gap : gap_from tb l.contexts 0 rows ≡ p) where
    gap_is : gap_from tb (length (contexts_in l)) 0 rows ≡ p
    gap_is = ap (λ (m : ℕ). gap_from tb m 0 rows) told ∙ gap

    sought : seek (tables_of ws l).store (tables_of ws l).answers (contexts_in l) (rules_in l) ≡ sought_by (rules_in l) (contexts_in l) p
    sought =
        let e = sought_to_gap w.to_gap (omega arith) (omega arith) in
        (λ i. seek (tables_of ws l).store (tables_of ws l).answers (sym (take-length (contexts_in l)) i) (sym (take-length (rules_in l)) i)) ∙ sym e ∙
        ap (sought_by (rules_in l) (contexts_in l)) gap_is

  -- the tables given, with nothing in hand, nothing asked, not accepted
  module _ (h : l.hand ≡ 0) (o : l.asked ≡ 0) (z : l.accepted ≡ 0) where
    given_is : tables_of ws l ≡ handed ws l 0
    given_is = λ i. tables (tables_of ws l).store (tables_of ws l).answers (states_in l) (rules_in l) (contexts_in l) (h i) (o i) (eqb (z i) 1)

    settled_as : {p : Sought} → seek (tables_of ws l).store (tables_of ws l).answers (contexts_in l) (rules_in l) ≡ p → settled (tables_of ws l) ≡ settled_by (handed ws l 0) p
    settled_as e = ap settled given_is ∙ ap (settled_by (handed ws l 0)) e

  -- NONE UNKNOWN: the table has all answers, so S grows by it
  proposing_is : (s : List ℕ) → proposing l (over s l.s) (length s) ≡ lists_of l (tables (tables_of ws l).store (tables_of ws l).answers s (rules_in l) (contexts_in l) 0 0 false)
  proposing_is s =
      λ i. record {
        letters = letters_told run.fit a i;
        counts = sym (over_take l.letters l.counts (few_letters run.fit a)) i;
        accepted = 0;
        used = sym (used_of ws (counts_in l) l.used) i;
        states = length s;
        s = over s l.s;
        rules = rules_told run.fit a i;
        t = sym (over_take l.rules l.t (few_rules run.fit a)) i;
        contexts = contexts_told run.fit a i;
        c = sym (over_take l.contexts l.c (few_contexts run.fit a)) i;
        hand = 0;
        asked = 0;
      }

  module _ (closed : gap_from tb l.contexts 0 rows ≡ None) where
    observed : Observed (tables_of ws l).store (tables_of ws l).answers l.t l.rules l.c l.contexts tb
    observed =
        let x = tables_of ws l in
        let e : rows ≡ l.rules = w.to_gap.whole (gap_is closed) ∙ sym (rules_told run.fit a) in
        subst (λ (k : ℕ). Observed x.store x.answers l.t k l.c l.contexts tb) e
        (observed_whole x.store x.answers l.t l.rules l.c l.contexts (few_rules run.fit a) (few_contexts run.fit a) tb rows (omega arith) w.to_gap.observed)

    pub closed_sized : Sized tb l.rules l.contexts
    closed_sized = observed.sized

    pub closed_ends : l.hand ≡ 0 → l.asked ≡ 0 → l.accepted ≡ 0 → (r : Result Lists Refusal) → ProposedAs l tb r → Ends ws l (settled (tables_of ws l)) r ws
    closed_ends h o z r f =
        let x : Tables = handed ws l 0 in
        ends_by (settled_as h o z (sought closed)) (go (grow (row_of x) x.s x.t) (f x.store x.answers observed))
      where
        go : (g : maybe.Option (List ℕ)) → GrownAs l g r → Ends ws l (proposed (handed ws l 0) g) r ws
        go none b = record { ended = (ap refused_by b, record { same_size = refl; same_rows = refl }) }
        go (some s) b = record { ended = (b ∙ ap Ok (proposing_is s), left_same ws (counts_in l) l.used) }

  -- ONE UNKNOWN: the gap's context filled with its transition
  module _ {gap : Gap} (is : gap_from tb l.contexts 0 rows ≡ Some gap) where
    places : Within (length (rules_in l)) (length (contexts_in l)) gap.rule gap.context.0
    places =
        let p = gap_within tb rows (length (contexts_in l)) w.to_gap.observed.sized gap (gap_is is) in
        record { rule = omega (arith, p.rule, w.to_gap.few); context = p.context }

    pub rule_within : gap.rule < length (rules_in l)
    rule_within = places.rule

    pub context_within : gap.context.0 < length (contexts_in l)
    context_within = places.context

    is_context_law : IsContext (tables_of ws l).store (get_or (contexts_in l) gap.context.0 0)
    is_context_law = run.orderly.context (get_or (contexts_in l) gap.context.0 0) (at_place (contexts_in l) gap.context.0 places.context)

    pub context_used : get_or (contexts_in l) gap.context.0 0 < l.used
    context_used = omega (arith, is_context_law.within, used_of ws (counts_in l) l.used)

    pub context_holed : has_hole (tables_of ws l).store (get_or (contexts_in l) gap.context.0 0) ≡ true
    context_holed = is_context_law.hole

    pub rule_used : get_or (rules_in l) gap.rule 0 < l.used
    rule_used = used_rules run gap.rule places.rule

    frames_fit : Fits (tables_of ws l).store (frames_of (tables_of ws l).store (get_or (contexts_in l) gap.context.0 0))
    frames_fit = context_fits (tables_of ws l).store run.orderly.good (get_or (contexts_in l) gap.context.0 0) is_context_law.within is_context_law.hole

    pub open_ends : l.hand ≡ 0 → l.asked ≡ 0 → l.accepted ≡ 0 → {g : Option Added} {us ix : List ℕ} →
        Comes ws (counts_in l) l.used (fill (tables_of ws l).store (frames_of (tables_of ws l).store (get_or (contexts_in l) gap.context.0 0)) (get_or (rules_in l) gap.rule 0)) g us ix →
        (r : Result Lists Refusal) → OpenedAs l 0 g r → Ends ws l (settled (tables_of ws l)) r us
    open_ends h o z {g} d r e =
        ends_by (settled_as h o z (sought is))
        (question_ends run a (frames_of (tables_of ws l).store (get_or (contexts_in l) gap.context.0 0)) frames_fit 0 (get_or (rules_in l) gap.rule 0) rule_used r g d e)
