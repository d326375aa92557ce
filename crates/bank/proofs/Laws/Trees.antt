-- The index: a row more at the end of its own walk, rows written beyond the indexed ones, and a search that walks one tree.
-- A walk looks at links alone, so it is kept where no link that it follows changes; and a row that a walk has passed is not what is asked for.
use mathlib.Core.Path.{◌≡◌, refl, sym, ap, subst, ◌∙◌}
use mathlib.Core.List.{List}
use Prim.Native.Nat.{ℕ, ◌+◌, ◌*◌, ◌/◌, ◌%◌, ◌≤◌, ◌<◌}
use native.Mathlib.Nat.{mul-lt-mul_of_pos_right}
use native.Mathlib.Omega.{arith}
use lib.ListN.{length, get_or, set, length-set}
use lib.Seq.{get_or-set_same, get_or-set_other}
use Rattle.model.specs.Limits.{row_width, most_rows}
use Rattle.model.proofs.Laws.Tests.{by_equal}
use Rattle.bank.specs.Rows.{symbol_in, places_in, Within}
use Rattle.bank.specs.Index.{size_in, link_of, hole_of, head_of, head_for, bucket_for, key_for, Leads, here, on, Met, Slot, head, link, Treed, Indexed, NoTwins, Finding, find_in, Seat, Walk, entered}
use Rattle.bank.proofs.Laws.Words.{SameRows, symbol_kept, places_kept}
use Rattle.bank.proofs.Laws.Finding.{absent_in, find_none, find_is}

-- THE BUCKET is one of them
scaled_small : (m z : ℕ) → 0 < z → m % 2147483648 * z / 2147483648 < z
scaled_small m z h =
    let l : m % 2147483648 * z < 2147483648 * z = mul-lt-mul_of_pos_right (omega arith) h in
    omega arith

pub bucket_small : (z a : ℕ) (ps : List ℕ) → 0 < z → bucket_for z a ps < z
unfolding bucket_for
bucket_small z a ps h =
    scaled_small (a * 499994353 + get_or ps 0 0 * 314606869 + get_or ps 1 0 * 217645199 + get_or ps 2 0 * 443834137 + get_or ps 3 0 * 125640277) z h

-- NO ROW indexed yet: all heads 0
pub indexed_none : (ws xs : List ℕ) → ((h : ℕ) → h < 2 * size_in xs → get_or xs (head_of (size_in xs) h) 0 ≡ 0) → Indexed ws 1 xs
indexed_none ws xs z =
    record {
      heads = λ h l. omega (arith, z h l);
      links = λ i b p l c. omega arith;
      later = λ i b p l c nz. omega arith;
      single = λ s t a b nz e. absurd (none s a nz);
      met = λ i p l. absurd (omega arith);
    }
  where
    none : (s : ℕ) → Slot (size_in xs) 1 s → (get_or xs s 0 ≡ 0 → ⊥) → ⊥
    none s (head h l e) nz = nz (ap (λ (t : ℕ). get_or xs t 0) e ∙ z h l)
    none s (link i b p l c e) nz = omega arith

-- THE SLOTS that a walk leads to
module _ {z : ℕ} {ws : List ℕ} {n : ℕ} {xs : List ℕ} (x : Treed z ws n xs) where
  pub slot_below : {s : ℕ} → Slot z n s → get_or xs s 0 < n
  slot_below (head h l e) = rw e (x.heads h l)
  slot_below (link r b p l c e) = rw e (x.links r b p l c)

  pub slot_next : {s : ℕ} → Slot z n s → (get_or xs s 0 ≡ 0 → ⊥) → (k : ℕ) → Slot z n (link_of (get_or xs s 0) (k % 2))
  slot_next {s} q nz k = link (get_or xs s 0) (k % 2) (by_equal (get_or xs s 0) 0 (λ e. absurd (nz e)) (λ e. omega arith)) (slot_below q) (omega arith) refl

  pub slot_end : {e s k : ℕ} → Leads xs e s k → Slot z n s → Slot z n e
  slot_end (here p) q = subst (λ (t : ℕ). Slot z n t) p q
  slot_end (on {key = k} nz l) q = slot_end l (slot_next q nz k)

-- ROWS KEPT: the index looks at the nodes of its rows alone
pub indexed_same : {ws : List ℕ} {n : ℕ} {xs : List ℕ} (vs : List ℕ) → ((j : ℕ) → j < n → symbol_in vs j ≡ symbol_in ws j) →
    ((j : ℕ) → j < n → places_in vs j ≡ places_in ws j) → Indexed ws n xs → Indexed vs n xs
indexed_same {ws} {n} {xs} vs p q x =
    record {
      heads = x.heads;
      links = x.links;
      later = x.later;
      single = x.single;
      met = λ i z l. subst (λ (t : ℕ). Met xs (head_for (size_in xs) t (places_in vs i)) (key_for t (places_in vs i)) i) (sym (p i l))
          (subst (λ (t : List ℕ). Met xs (head_for (size_in xs) (symbol_in ws i) t) (key_for (symbol_in ws i) t) i) (sym (q i l)) (x.met i z l));
    }

pub finding_kept : {ws : List ℕ} {n : ℕ} {xs : List ℕ} (vs : List ℕ) → Finding ws n xs → SameRows ws n vs → length vs ≡ length ws → Finding vs n xs
finding_kept {ws} {n} vs f s l =
    record {
      some = f.some;
      few = f.few;
      room = omega (arith, f.room);
      roomy = record { some = f.roomy.some; few = f.roomy.few; long = omega (arith, f.roomy.long) };
      indexed = indexed_same vs (λ j h. symbol_kept ws vs n s j h) (λ j h. places_kept ws vs n s j h) f.indexed;
      no_twins = λ i j z h k p q. f.no_twins i j z h k (sym (symbol_kept ws vs n s i (omega arith)) ∙ p ∙ symbol_kept ws vs n s j k)
          (sym (places_kept ws vs n s i (omega arith)) ∙ q ∙ places_kept ws vs n s j k);
    }

-- ONE ROW MORE, where its own walk ends
pub length_entered : (xs : List ℕ) (s i v : ℕ) → length (entered xs s i v) ≡ length xs
length_entered xs s i v = simp length-set

module _ (xs : List ℕ) (s i v : ℕ) where
  -- away from the row's three numbers and the slot nothing changes
  pub entered_off : (t : ℕ) → (t ≡ link_of i 0 → ⊥) → (t ≡ link_of i 1 → ⊥) → (t ≡ hole_of i → ⊥) → (t ≡ s → ⊥) → get_or (entered xs s i v) t 0 ≡ get_or xs t 0
  entered_off t a b c d =
      get_or-set_other (set (set (set xs (link_of i 0) 0) (link_of i 1) 0) (hole_of i) v) s t i 0 d ∙
      get_or-set_other (set (set xs (link_of i 0) 0) (link_of i 1) 0) (hole_of i) t v 0 c ∙
      get_or-set_other (set xs (link_of i 0) 0) (link_of i 1) t 0 0 b ∙ get_or-set_other xs (link_of i 0) t 0 0 a

  pub entered_at : (t : ℕ) → t ≡ s → s < length xs → get_or (entered xs s i v) t 0 ≡ i
  entered_at t e l =
      rw e (get_or-set_same (set (set (set xs (link_of i 0) 0) (link_of i 1) 0) (hole_of i) v) s i 0 (simp length-set l))

  pub entered_hole : (s ≡ hole_of i → ⊥) → hole_of i < length xs → get_or (entered xs s i v) (hole_of i) 0 ≡ v
  entered_hole d l =
      get_or-set_other (set (set (set xs (link_of i 0) 0) (link_of i 1) 0) (hole_of i) v) s (hole_of i) i 0 (λ e. d (sym e)) ∙
      get_or-set_same (set (set xs (link_of i 0) 0) (link_of i 1) 0) (hole_of i) v 0 (simp length-set l)

  entered_link0 : (s ≡ link_of i 0 → ⊥) → link_of i 0 < length xs → get_or (entered xs s i v) (link_of i 0) 0 ≡ 0
  entered_link0 d l =
      get_or-set_other (set (set (set xs (link_of i 0) 0) (link_of i 1) 0) (hole_of i) v) s (link_of i 0) i 0 (λ e. d (sym e)) ∙
      get_or-set_other (set (set xs (link_of i 0) 0) (link_of i 1) 0) (hole_of i) (link_of i 0) v 0 (λ e. omega arith) ∙
      get_or-set_other (set xs (link_of i 0) 0) (link_of i 1) (link_of i 0) 0 0 (λ e. omega arith) ∙
      get_or-set_same xs (link_of i 0) 0 0 l

  entered_link1 : (s ≡ link_of i 1 → ⊥) → link_of i 1 < length xs → get_or (entered xs s i v) (link_of i 1) 0 ≡ 0
  entered_link1 d l =
      get_or-set_other (set (set (set xs (link_of i 0) 0) (link_of i 1) 0) (hole_of i) v) s (link_of i 1) i 0 (λ e. d (sym e)) ∙
      get_or-set_other (set (set xs (link_of i 0) 0) (link_of i 1) 0) (hole_of i) (link_of i 1) v 0 (λ e. omega arith) ∙
      get_or-set_same (set xs (link_of i 0) 0) (link_of i 1) 0 0 (simp length-set l)

  pub entered_link : (b : ℕ) → b < 2 → (s ≡ link_of i b → ⊥) → link_of i b < length xs → get_or (entered xs s i v) (link_of i b) 0 ≡ 0
  entered_link b c d l =
      by_equal b 0
      (λ e. subst (λ (k : ℕ). get_or (entered xs s i v) (link_of i k) 0 ≡ 0) (sym e) (entered_link0 (λ p. d (omega arith)) (omega arith)))
      (λ e. let f : b ≡ 1 = omega arith in subst (λ (k : ℕ). get_or (entered xs s i v) (link_of i k) 0 ≡ 0) (sym f) (entered_link1 (λ p. d (omega arith)) (omega arith)))

module _ (z : ℕ) (ws xs : List ℕ) (i s v : ℕ) (x : Treed z ws i xs) (some : 0 < i) (room : i < z) (long : 5 * z ≤ length xs)
    (seat : Leads xs s (head_for z (symbol_in ws i) (places_in ws i)) (key_for (symbol_in ws i) (places_in ws i))) (free : get_or xs s 0 ≡ 0) where
  ys : List ℕ
  ys = entered xs s i v

  first : (j : ℕ) → Slot z i (head_for z (symbol_in ws j) (places_in ws j))
  first j = head (bucket_for (2 * z) (symbol_in ws j) (places_in ws j)) (bucket_small (2 * z) (symbol_in ws j) (places_in ws j) (omega arith)) refl

  slot : Slot z i s
  slot = slot_end x seat (first i)

  -- a slot of a walk that holds a row still holds it
  same : {t : ℕ} → Slot z i t → (get_or xs t 0 ≡ 0 → ⊥) → get_or ys t 0 ≡ get_or xs t 0
  unfolding ys
  same {t} (head h l e) nz =
      entered_off xs s i v t (λ p. omega arith) (λ p. omega arith) (λ p. omega arith) (λ p. nz (ap (λ (k : ℕ). get_or xs k 0) p ∙ free))
  same {t} (link r b p l c e) nz =
      entered_off xs s i v t (λ p. omega arith) (λ p. omega arith) (λ p. omega arith) (λ p. nz (ap (λ (k : ℕ). get_or xs k 0) p ∙ free))

  leads_kept : {e t k : ℕ} → Leads xs e t k → Slot z i t → Leads ys e t k
  leads_kept (here p) q = here p
  leads_kept {e} (on {slot = t} {key = k} nz l) q =
      on (λ p. nz (sym (same q nz) ∙ p))
      (subst (λ (r : ℕ). Leads ys e (link_of r (k % 2)) (k / 2)) (sym (same q nz)) (leads_kept l (slot_next x q nz k)))

  within : s < length xs
  within = slot_within slot
    where
      slot_within : Slot z i s → s < length xs
      slot_within (head h l e) = omega arith
      slot_within (link r b p l c e) = omega arith

  not_own : (b : ℕ) → b < 3 → s ≡ 3 * i + b → ⊥
  not_own b c e = go slot
    where
      go : Slot z i s → ⊥
      go (head h l p) = omega arith
      go (link r d y l f p) = omega arith

  old_met : (j : ℕ) → 0 < j → j < i → Met ys (head_for z (symbol_in ws j) (places_in ws j)) (key_for (symbol_in ws j) (places_in ws j)) j
  old_met j p l =
      let m = x.met j p l in
      record {
        end = m.end;
        leads = leads_kept m.leads (first j);
        holds = same (slot_end x m.leads (first j)) (λ e. omega (arith, e, m.holds)) ∙ m.holds;
      }

  new_met : Met ys (head_for z (symbol_in ws i) (places_in ws i)) (key_for (symbol_in ws i) (places_in ws i)) i
  unfolding ys
  new_met = record { end = s; leads = leads_kept seat (first i); holds = entered_at xs s i v s refl within }

  -- a slot other than the row's own: it holds an earlier row or none, and one that holds a row is as it was
  other_below : {t : ℕ} → Slot z (i + 1) t → (t ≡ s → ⊥) → get_or ys t 0 < i
  unfolding ys
  other_below {t} (head h l e) d =
      omega (arith, entered_off xs s i v t (λ p. omega arith) (λ p. omega arith) (λ p. omega arith) d, ap (λ (k : ℕ). get_or xs k 0) e, x.heads h l)
  other_below {t} (link r b p l c e) d =
      by_equal r i
      (λ f. omega (
        arith,
        subst (λ (k : ℕ). get_or (entered xs s i v) k 0 ≡ 0) (let g : link_of i b ≡ t = omega arith in g)
            (entered_link xs s i v b c (λ g. d (omega arith)) (omega arith)),
      ))
      (λ f. omega (arith, entered_off xs s i v t (λ g. omega arith) (λ g. omega arith) (λ g. omega arith) d, ap (λ (k : ℕ). get_or xs k 0) e, x.links r b p (omega arith) c))

  old_slot : {t : ℕ} → Slot z (i + 1) t → (t ≡ s → ⊥) → (get_or ys t 0 ≡ 0 → ⊥) → Slot z i t × (get_or ys t 0 ≡ get_or xs t 0)
  unfolding ys
  old_slot {t} (head h l e) d nz = (head h l e, entered_off xs s i v t (λ p. omega arith) (λ p. omega arith) (λ p. omega arith) d)
  old_slot {t} (link r b p l c e) d nz =
      by_equal r i
      (λ f. absurd (nz (subst (λ (k : ℕ). get_or (entered xs s i v) k 0 ≡ 0) (let g : link_of i b ≡ t = omega arith in g)
      (entered_link xs s i v b c (λ g. d (omega arith)) (omega arith)))))
      (λ f. (link r b p (omega arith) c e, entered_off xs s i v t (λ g. omega arith) (λ g. omega arith) (λ g. omega arith) d))

  single_more : (t u : ℕ) → Slot z (i + 1) t → Slot z (i + 1) u → (get_or ys t 0 ≡ 0 → ⊥) → get_or ys t 0 ≡ get_or ys u 0 → t ≡ u
  unfolding ys
  single_more t u a b nz e =
      by_equal t s
      (λ p. by_equal u s (λ q. p ∙ sym q) (λ q. absurd (omega (arith, entered_at xs s i v t p within, other_below b q, e))))
      (λ p. by_equal u s (λ q. absurd (omega (arith, entered_at xs s i v u q within, other_below a p, e)))
      (λ q. let c = old_slot a p nz in
      let d = old_slot b q (λ g. nz (e ∙ g)) in
      x.single t u c.0 d.0 (λ g. nz (c.1 ∙ g)) (sym c.1 ∙ e ∙ d.1)))

  pub treed_more : Treed z ws (i + 1) (entered xs s i v)
  unfolding ys
  treed_more =
      record {
        heads = λ h l. by_equal (head_of z h) s (λ e. omega (arith, entered_at xs s i v (head_of z h) e within))
            (λ e. omega (arith, entered_off xs s i v (head_of z h) (λ p. omega arith) (λ p. omega arith) (λ p. omega arith) e, x.heads h l));
        links = λ r b p l c. by_equal r i
            (λ e. subst (λ (k : ℕ). get_or (entered xs s i v) (link_of k b) 0 < i + 1) (sym e) (omega (arith, entered_link xs s i v b c (not_own b (omega arith)) (omega arith))))
            (λ e. by_equal (link_of r b) s (λ f. omega (arith, entered_at xs s i v (link_of r b) f within))
            (λ f. omega (arith, entered_off xs s i v (link_of r b) (λ g. omega arith) (λ g. omega arith) (λ g. omega arith) f, x.links r b p (omega arith) c)));
        later = λ r b p l c nz. by_equal r i
            (λ e. absurd (nz (subst (λ (k : ℕ). get_or (entered xs s i v) (link_of k b) 0 ≡ 0) (sym e) (entered_link xs s i v b c (not_own b (omega arith)) (omega arith)))))
            (λ e. by_equal (link_of r b) s (λ f. omega (arith, entered_at xs s i v (link_of r b) f within))
            (λ f. let o = entered_off xs s i v (link_of r b) (λ g. omega arith) (λ g. omega arith) (λ g. omega arith) f in
            omega (arith, o, x.later r b p (omega arith) c (λ g. nz (o ∙ g)))));
        single = single_more;
        met = λ j p l. by_equal j i
            (λ e. subst (λ (k : ℕ). Met (entered xs s i v) (head_for z (symbol_in ws k) (places_in ws k)) (key_for (symbol_in ws k) (places_in ws k)) k) (sym e) new_met)
            (λ e. old_met j p (omega arith));
      }

  pub holes_kept : (j : ℕ) → j < i → get_or (entered xs s i v) (hole_of j) 0 ≡ get_or xs (hole_of j) 0
  holes_kept j l = entered_off xs s i v (hole_of j) (λ p. omega arith) (λ p. omega arith) (λ p. omega arith) (λ p. go slot p)
    where
      go : Slot z i s → hole_of j ≡ s → ⊥
      go (head h k p) q = omega arith
      go (link r d y k f p) q = omega arith

  pub hole_entered : get_or (entered xs s i v) (hole_of i) 0 ≡ v
  hole_entered = entered_hole xs s i v (not_own 2 (omega arith)) (omega arith)

pub indexed_more : (ws xs : List ℕ) (i s v : ℕ) → Indexed ws i xs → 0 < i → i < size_in xs → Seat xs (symbol_in ws i) (places_in ws i) s → get_or xs s 0 ≡ 0 →
    Indexed ws (i + 1) (entered xs s i v)
indexed_more ws xs i s v x some room seat free =
    subst (λ (z : ℕ). Treed z ws (i + 1) (entered xs s i v)) (ap (λ (l : ℕ). l / 5) (sym (length_entered xs s i v)))
    (treed_more (size_in xs) ws xs i s v x some room (omega arith) seat.leads free)

-- with row n unlike the earlier ones there are still no twins
pub no_twins_more : (ws : List ℕ) (n : ℕ) → row_width * n ≤ length ws → NoTwins ws n → find_in ws n (symbol_in ws n) (places_in ws n) ≡ 0 → NoTwins ws (n + 1)
no_twins_more ws n w t e i j z h k p q =
    by_equal j n (λ s. absent_in ws n w (symbol_in ws n) (places_in ws n) e i z (omega arith) (p ∙ ap (symbol_in ws) s) (q ∙ ap (places_in ws) s))
    (λ s. t i j z h (omega arith) p q)

-- a row that no earlier one equals, at its seat
pub finding_more : {ws : List ℕ} {n : ℕ} {xs : List ℕ} (s v : ℕ) → Finding ws n xs → n < most_rows → Within ws n → Seat xs (symbol_in ws n) (places_in ws n) s →
    get_or xs s 0 ≡ find_in ws n (symbol_in ws n) (places_in ws n) → find_in ws n (symbol_in ws n) (places_in ws n) ≡ 0 → Finding ws (n + 1) (entered xs s n v)
finding_more {ws} {n} {xs} s v f l w seat holds none =
    let e = length_entered xs s n v in
    record {
      some = omega arith;
      few = omega arith;
      room = omega arith;
      roomy = record { some = omega (arith, f.roomy.some, e); few = omega (arith, f.roomy.few, e); long = omega (arith, f.roomy.long, e) };
      indexed = indexed_more ws xs n s v f.indexed f.some (omega (arith, f.roomy.long)) seat (holds ∙ none);
      no_twins = no_twins_more ws n f.room f.no_twins none;
    }

-- one step: a row that is not at the slot is met beyond it
beyond : {xs : List ℕ} {e s k j : ℕ} → Leads xs e s k → get_or xs e 0 ≡ j → (get_or xs s 0 ≡ j → ⊥) → Met xs (link_of (get_or xs s 0) (k % 2)) (k / 2) j
beyond {xs} (here p) h other = absurd (other (ap (λ (t : ℕ). get_or xs t 0) p ∙ h))
beyond {e = e} (on nz l) h other = record { end = e; leads = l; holds = h }

-- and none is met from an empty slot
nowhere : {xs : List ℕ} {e s k j : ℕ} → Leads xs e s k → get_or xs e 0 ≡ j → get_or xs s 0 ≡ 0 → 0 < j → ⊥
nowhere {xs} (here p) h z l = omega (arith, sym h ∙ ap (λ (t : ℕ). get_or xs t 0) (sym p) ∙ z)
nowhere (on nz l) h z m = nz z

module _ {ws : List ℕ} {n : ℕ} {xs : List ℕ} (f : Finding ws n xs) (a : ℕ) (ps : List ℕ) where
  -- at the head of the bucket
  at_head : (j : ℕ) → 0 < j → j < n → symbol_in ws j ≡ a → places_in ws j ≡ ps → Met xs (head_for (size_in xs) a ps) (key_for a ps) j
  at_head j y l p q =
      subst (λ (t : ℕ). Met xs (head_for (size_in xs) t ps) (key_for t ps) j) p
      (subst (λ (t : List ℕ). Met xs (head_for (size_in xs) (symbol_in ws j) t) (key_for (symbol_in ws j) t) j) q (f.indexed.met j y l))

  -- a slot of the walk from which all that have it are met: empty, or with such a row
  none_at : (s k : ℕ) → ((j : ℕ) → 0 < j → j < n → symbol_in ws j ≡ a → places_in ws j ≡ ps → Met xs s k j) → get_or xs s 0 ≡ 0 → get_or xs s 0 ≡ find_in ws n a ps
  none_at s k m e =
      e ∙ sym (find_none ws n f.room a ps (λ j y l p q. let t = m j y l p q in nowhere t.leads t.holds e y))

  pub one_at : (i : ℕ) → 0 < i → i < n → symbol_in ws i ≡ a → places_in ws i ≡ ps → i ≡ find_in ws n a ps
  one_at i y l p q = sym ((λ t. find_in ws n (sym p t) (sym q t)) ∙ find_is ws n f.room f.no_twins i y l)

  step_on : (s k : ℕ) → Slot (size_in xs) n s → (get_or xs s 0 ≡ 0 → ⊥) →
      ((e : ℕ) → Leads xs e s k → Leads xs e (head_for (size_in xs) a ps) (key_for a ps)) →
      ((j : ℕ) → 0 < j → j < n → symbol_in ws j ≡ a → places_in ws j ≡ ps → Met xs s k j) →
      (symbol_in ws (get_or xs s 0) ≡ a → places_in ws (get_or xs s 0) ≡ ps → ⊥) → Walk ws n xs a ps (get_or xs s 0) k
  step_on s k t nz back m other =
      record {
        some = by_equal (get_or xs s 0) 0 (λ e. absurd (nz e)) (λ e. omega arith);
        within = slot_below f.indexed t;
        back = λ e l. back e (on nz l);
        left = λ j y l p q. let r = m j y l p q in
            beyond r.leads r.holds (λ e. other (ap (symbol_in ws) e ∙ p) (ap (places_in ws) e ∙ q));
      }

  head_slot : Slot (size_in xs) n (head_for (size_in xs) a ps)
  head_slot = head (bucket_for (2 * size_in xs) a ps) (bucket_small (2 * size_in xs) a ps (omega (arith, f.roomy.some))) refl

  -- THE FIRST ROW of the bucket
  pub head_seat : (h : ℕ) → h ≡ bucket_for (2 * size_in xs) a ps → Seat xs a ps (head_of (size_in xs) h)
  head_seat h e =
      record {
        within = omega (arith, e, bucket_small (2 * size_in xs) a ps (omega (arith, f.roomy.some)));
        leads = here (ap (λ (t : ℕ). head_of (size_in xs) t) (sym e));
      }

  pub head_none : (h : ℕ) → h ≡ bucket_for (2 * size_in xs) a ps → get_or xs (head_of (size_in xs) h) 0 ≡ 0 → get_or xs (head_of (size_in xs) h) 0 ≡ find_in ws n a ps
  head_none h e z = rw e (none_at (head_for (size_in xs) a ps) (key_for a ps) at_head (rw e at z))

  pub head_below : (h : ℕ) → h ≡ bucket_for (2 * size_in xs) a ps → get_or xs (head_of (size_in xs) h) 0 < n
  head_below h e = rw e (slot_below f.indexed head_slot)

  pub begins : (h : ℕ) → h ≡ bucket_for (2 * size_in xs) a ps → (get_or xs (head_of (size_in xs) h) 0 ≡ 0 → ⊥) →
      (symbol_in ws (get_or xs (head_of (size_in xs) h) 0) ≡ a → places_in ws (get_or xs (head_of (size_in xs) h) 0) ≡ ps → ⊥) →
      Walk ws n xs a ps (get_or xs (head_of (size_in xs) h) 0) (key_for a ps)
  begins h e nz other =
      step_on (head_of (size_in xs) h) (key_for a ps) (head h (omega (arith, e, bucket_small (2 * size_in xs) a ps (omega (arith, f.roomy.some)))) refl) nz
      (λ t l. subst (λ (u : ℕ). Leads xs t (head_of (size_in xs) u) (key_for a ps)) e l)
      (λ j y l p q. subst (λ (u : ℕ). Met xs (head_of (size_in xs) u) (key_for a ps) j) (sym e) (at_head j y l p q))
      other

  -- THE ROWS BELOW
  module _ (i k : ℕ) (w : Walk ws n xs a ps i k) where
    link_slot : Slot (size_in xs) n (link_of i (k % 2))
    link_slot = link i (k % 2) w.some w.within (omega arith) refl

    pub link_below : get_or xs (link_of i (k % 2)) 0 < n
    link_below = slot_below f.indexed link_slot

    pub link_later : (get_or xs (link_of i (k % 2)) 0 ≡ 0 → ⊥) → i < get_or xs (link_of i (k % 2)) 0
    link_later nz = f.indexed.later i (k % 2) w.some w.within (omega arith) nz

    pub link_seat : Seat xs a ps (link_of i (k % 2))
    link_seat = record { within = omega (arith, w.within, f.room, f.roomy.long); leads = w.back (link_of i (k % 2)) (here refl) }

    pub link_none : get_or xs (link_of i (k % 2)) 0 ≡ 0 → get_or xs (link_of i (k % 2)) 0 ≡ find_in ws n a ps
    link_none z = none_at (link_of i (k % 2)) (k / 2) w.left z

    pub goes_on : (get_or xs (link_of i (k % 2)) 0 ≡ 0 → ⊥) →
        (symbol_in ws (get_or xs (link_of i (k % 2)) 0) ≡ a → places_in ws (get_or xs (link_of i (k % 2)) 0) ≡ ps → ⊥) → Walk ws n xs a ps (get_or xs (link_of i (k % 2)) 0) (k / 2)
    goes_on nz other = step_on (link_of i (k % 2)) (k / 2) link_slot nz w.back w.left other
