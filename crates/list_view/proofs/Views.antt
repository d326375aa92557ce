-- A view shows the automaton that its bytes are (§6.3), and of bytes that are no list the one with no symbol, state or rule.
-- By induction on the fuel of the reader: the rules that it adds are those of the blocks, up to the end of the bytes.
use mathlib.Core.Path.{◌≡◌, refl, sym, ap, ◌∙◌}
use mathlib.Core.Bool.{Bool, true, false, ◌&&◌}
use mathlib.Core.List.{List, [], ◌∷◌, ◌++◌, append_assoc, append-nil}
use mathlib.Core.Option.{some}
use Prim.Native.Nat.{ℕ, zero, suc, ◌+◌, ◌≤◌}
use native.Mathlib.Omega.{arith}
use lib.Dec.{leb}
use lib.ListN.{length, get_or, take}
use lib.Seq.{drop-nil}
use Rattle.model.specs.Limits.{most_symbols, most_children}
use Rattle.model.specs.Base.{is_in, all}
use Rattle.model.specs.Automata.{Rule, Automaton, is_final, target_in}
use Rattle.model.specs.Sound.{alphabet_fits}
use Rattle.model.specs.Listing.{value_of, Sheet, body_at, behind, is_block, rule_in, Read, broken, loaded, behind_rules, rules_from, finals_fit, read_finals, read_list}
use Rattle.model.specs.Entry.{loaded_by, load_seen}
use Rattle.model.specs.View.{no_rule}
use Rattle.model.proofs.Laws.Tests.{both_true}
use Rattle.model.proofs.Laws.ReflectRows.{counts_at}
use Rattle.model.proofs.Laws.ListRead.{given, behind_read, list_limits}
use Rattle.model.proofs.Laws.RulesRead.{next_fits, rules_end, rules_next, rules_stop}
use Rattle.list.specs.Blocks.{rules_in, after}
use Rattle.list.specs.Flat.{flat_width}
use Rattle.list_view.specs.Shown.{as_target, shown_by, shown_bytes, sheet_by, automaton_in, Shows}
use Rattle.list.proofs.Walk.{length_rules_in}

-- WHAT THE READER READ: the rules behind those before it are those of the blocks, and nothing is left
record Added (ns fs : List ℕ) (rs : List Rule) (bs : List ℕ) (a : Sheet) : Type 0 where
  count : ℕ
  is : a.automaton ≡ record { counts = ns; finals = fs; rules = rs ++ rules_in count bs }
  ends : after count bs ≡ []

-- behind the rules
added_none : (ns fs : List ℕ) (rs : List Rule) (bs : List ℕ) (a : Sheet) → behind_rules ns fs rs bs ≡ loaded a → Added ns fs rs bs a
unfolding rules_in after
added_none ns fs rs bs a e =
    let b = behind_read ns fs rs bs a e in
    record {
      count = 0;
      is = ap (λ (x : Sheet). x.automaton) b.is ∙ ap (λ (us : List Rule). record { counts = ns; finals = fs; rules = us }) (sym (append-nil rs));
      ends = b.none;
    }

added : (n : ℕ) (ns fs : List ℕ) (rs : List Rule) (bs : List ℕ) (a : Sheet) → rules_from n ns fs rs bs ≡ loaded a → Added ns fs rs bs a
unfolding rules_from rules_in after
added zero ns fs rs bs a e = let z : ◌≡◌ {A = ℕ} 0 1 = cc in absurd (omega arith)
added (suc n) ns fs rs bs a e = go (is_block 3 bs) refl (next_fits ns fs rs bs) refl (λ f. added n ns fs (rs ++ (rule_in (body_at bs) ∷ [])) (behind bs) a f)
  where
    go : (c : Bool) → is_block 3 bs ≡ c → (t : Bool) → next_fits ns fs rs bs ≡ t →
        (rules_from n ns fs (rs ++ (rule_in (body_at bs) ∷ [])) (behind bs) ≡ loaded a → Added ns fs (rs ++ (rule_in (body_at bs) ∷ [])) (behind bs) a) → Added ns fs rs bs a
    go false c t f i = added_none ns fs rs bs a (sym (rules_end (suc n) ns fs rs bs c (omega arith)) ∙ e)
    go true c false f i =
        let s = rules_stop (suc n) ns fs rs bs c f in
        let z : ◌≡◌ {A = ℕ} 0 1 = cc in
        absurd (omega arith)
    go true c true f i =
        let m = i (sym (rules_next n ns fs rs bs c f) ∙ e) in
        record {
          count = suc m.count;
          is = m.is ∙ ap (λ (us : List Rule). record { counts = ns; finals = fs; rules = us }) (append_assoc rs (rule_in (body_at bs) ∷ []) (rules_in m.count (behind bs)));
          ends = m.ends;
        }

pub record List-read (bs : List ℕ) (a : Automaton) : Type 0 where
  pub counts : body_at bs ≡ a.counts
  pub finals : body_at (behind bs) ≡ a.finals
  pub rules : rules_in (length a.rules) (behind (behind bs)) ≡ a.rules
  pub ends : after (length a.rules) (behind (behind bs)) ≡ []

pub list_read : (bs : List ℕ) (a : Sheet) → read_list bs ≡ loaded a → List-read bs a.automaton
list_read bs a e =
    let us : List ℕ = behind bs in
    let g = given (is_block 1 bs && alphabet_fits (body_at bs)) (read_finals (body_at bs) us) a e in
    let h = given (is_block 2 us && finals_fit (body_at us)) (rules_from (length us + 1) (body_at bs) (body_at us) [] (behind us)) a g.1 in
    let m = added (length us + 1) (body_at bs) (body_at us) [] (behind us) a h.1 in
    let r : a.automaton.rules ≡ rules_in m.count (behind us) = ap (λ (d : Automaton). d.rules) m.is in
    let n : length a.automaton.rules ≡ m.count = ap length r ∙ length_rules_in m.count (behind us) in
    record {
      counts = sym (ap (λ (d : Automaton). d.counts) m.is);
      finals = sym (ap (λ (d : Automaton). d.finals) m.is);
      rules = ap (λ (k : ℕ). rules_in k (behind us)) n ∙ sym r;
      ends = ap (λ (k : ℕ). after k (behind us)) n ∙ m.ends;
    }

-- A RULE at a number
after_nil : (k : ℕ) → after k [] ≡ []
unfolding after value_of
after_nil zero = refl
after_nil (suc k) = ap (after k) (drop-nil (6 + 0)) ∙ after_nil k

no_rule_law : rule_in (body_at []) ≡ no_rule
unfolding value_of
no_rule_law = refl

pub rule_at_law : (n : ℕ) (bs : List ℕ) → after n bs ≡ [] → (k : ℕ) → rule_in (body_at (after k bs)) ≡ get_or (rules_in n bs) k no_rule
unfolding rules_in after
rule_at_law zero bs e k = ap (λ (us : List ℕ). rule_in (body_at (after k us))) e ∙ ap (λ (us : List ℕ). rule_in (body_at us)) (after_nil k) ∙ no_rule_law
rule_at_law (suc n) bs e zero = refl
rule_at_law (suc n) bs e (suc k) = rule_at_law n (behind bs) e k

-- THE VIEW, by what the bytes read as
record Seen (bs : List ℕ) (r : Read) : Type 0 where
  counts : body_at (shown_by bs r) ≡ (sheet_by r).automaton.counts
  finals : body_at (behind (shown_by bs r)) ≡ (sheet_by r).automaton.finals
  rules : rules_in (loaded_by r).size (behind (behind (shown_by bs r))) ≡ (sheet_by r).automaton.rules
  ends : after (loaded_by r).size (behind (behind (shown_by bs r))) ≡ []
  few : (s : ℕ) → get_or (sheet_by r).automaton.counts s 0 ≤ most_children

seen : (bs : List ℕ) (r : Read) → read_list bs ≡ r → Seen bs r
unfolding rules_in after value_of
seen bs broken e = record { counts = refl; finals = refl; rules = refl; ends = refl; few = λ s. omega arith }
seen bs (loaded a) e =
    let l = list_read bs a e in
    let ns : List ℕ = a.automaton.counts in
    let c = both_true (is_in 1 most_symbols (length ns)) (all (λ (k : ℕ). leb k most_children) ns) (list_limits bs a e).0 in
    record { counts = l.counts; finals = l.finals; rules = l.rules; ends = l.ends; few = counts_at ns c.1 }

pub view_shows : (bs : List ℕ) → Shows bs
view_shows bs =
    let v = seen bs (read_list bs) refl in
    let a = automaton_in bs in
    let n = (load_seen bs).size in
    let us = behind (behind (shown_bytes bs)) in
    let l : n ≡ length a.rules = sym (length_rules_in n us) ∙ ap length v.rules in
    record {
      sizes = λ i. record { letters = length (v.counts i); states = length (v.finals i); rules = l i };
      count = λ s. ap (λ (ns : List ℕ). get_or ns s 0) v.counts;
      final = λ q. ap (λ (fs : List ℕ). is_final fs (some q)) v.finals;
      rule = λ k. rule_at_law n us v.ends k ∙ ap (λ (rs : List Rule). get_or rs k no_rule) v.rules;
      target = λ s qs.
          let w : flat_width (body_at (shown_bytes bs)) s ≡ get_or a.counts s 0 = omega (arith, ap (λ (ns : List ℕ). get_or ns s 0) v.counts, v.few s) in
          ap (λ (k : ℕ). as_target (target_in s (take k qs) (rules_in n us))) w ∙ ap (λ (rs : List Rule). as_target (target_in s (take (get_or a.counts s 0) qs) rs)) v.rules;
    }
