-- Bytes written one run behind another from a place on: together they are one run, and all others stay as they were.
-- By the laws of bytes put at places.
use mathlib.Core.Path.{◌≡◌, sym, ap, subst, ◌∙◌}
use mathlib.Core.List.{List, [], ◌∷◌, ◌++◌, append_assoc}
use Prim.Native.Nat.{ℕ, ◌+◌, ◌≤◌, ◌<◌}
use native.Mathlib.Numerals.{add-one}
use native.Mathlib.Omega.{arith}
use lib.ListN.{length, set, take, drop, length-append}
use lib.Seq.{set_split}
use Rattle.model.specs.Base.{over}
use Rattle.list.specs.Put.{put_at}
use Rattle.list.proofs.Put.{put_length, put_over, put_two}
use Rattle.text_print.specs.Writing.{Run, Wrote}
use Rattle.text_print.specs.declared.line.Line.{Line}

pub run_long : {p q : ℕ} {a o o₁ : List ℕ} → Run p a o q o₁ → length o₁ ≡ length o
run_long {p} {q} {a} {o} r = ap length r.bytes ∙ put_length p a o r.fits

pub run_as : {p q : ℕ} {a b o o₁ : List ℕ} → a ≡ b → Run p a o q o₁ → Run p b o q o₁
run_as {p} {q} {a} {b} {o} {o₁} e r = subst (λ (t : List ℕ). Run p t o q o₁) e r

pub run_of : {p q : ℕ} {a o o₁ : List ℕ} → q ≡ p + length a → q ≤ length o → o₁ ≡ put_at p a o → Run p a o q o₁
run_of e l b = record { fits = omega arith; end = e; bytes = b }

put_one : (p v : ℕ) (o : List ℕ) → p < length o → set o p v ≡ put_at p (v ∷ []) o
put_one p v o h =
    set_split o p v h ∙ ap (λ (k : ℕ). take p o ++ (v ∷ drop k o)) (sym (add-one p)) ∙ sym (append_assoc (take p o) (v ∷ []) (drop (p + 1) o))

pub run_one : (p v : ℕ) (o : List ℕ) → p < length o → Run p (v ∷ []) o (p + 1) (set o p v)
run_one p v o h = record { fits = omega arith; end = omega arith; bytes = put_one p v o h }

-- ONE RUN MORE
pub run_then : {p q r : ℕ} {a b o o₁ o₂ : List ℕ} → Run p a o q o₁ → Run q b o₁ r o₂ → Run p (a ++ b) o r o₂
run_then {p} {q} {r} {a} {b} {o} {o₁} x y =
    let l = length-append a b in
    record {
      fits = omega (arith, x.end, y.fits, run_long x);
      end = omega (arith, x.end, y.end);
      bytes = put_two p q a b o x.fits x.end x.bytes y.bytes;
    }

pub run_byte : {p q : ℕ} {a o o₁ : List ℕ} → Run p a o q o₁ → (v : ℕ) → q < length o → Run p (a ++ (v ∷ [])) o (q + 1) (set o₁ q v)
run_byte {p} {q} {a} {o} {o₁} x v h = run_then x (run_one q v o₁ (omega (arith, run_long x)))

-- AT THE BEGINNING it stands over the rest
pub run_over : {q : ℕ} {a o o₁ : List ℕ} → Run 0 a o q o₁ → (q ≡ length a) × (o₁ ≡ over a o)
run_over {q} {a} {o} x = (omega (arith, x.end), x.bytes ∙ put_over a o)

-- A LINE, with one run behind another, or under another name
pub wrote_then : {a b : List ℕ} {k l m : Line} → Wrote a k l → Wrote b l m → Wrote (a ++ b) k m
wrote_then x y = record { same_room = y.same_room ∙ x.same_room; run = run_then x.run y.run }

pub wrote_as : {a b : List ℕ} {k l : Line} → a ≡ b → Wrote a k l → Wrote b k l
wrote_as {a} {b} {k} {l} e w = subst (λ (t : List ℕ). Wrote t k l) e w

-- a line whose run begins at the place where the joined branches left it
pub wrote_end : {a b : List ℕ} {j k l m : Line} → Wrote a k l → j ≡ l → Wrote b j m → Wrote (a ++ b) k m
wrote_end {a} {b} {j} {k} {l} {m} x e y = wrote_then x (subst (λ (i : Line). Wrote b i m) e y)

-- a line from the beginning stands over the room
pub wrote_over : {t o : List ℕ} {k l : Line} → (k.at ≡ 0) × (k.out.now ≡ o) → Wrote t k l → (l.at ≡ length t) × (l.out.now ≡ over t o)
wrote_over {t} {o} {k} {l} s w =
    let r = subst (λ (p : ℕ). Run p t k.out.now l.at l.out.now) s.0 w.run in
    run_over (subst (λ (u : List ℕ). Run 0 t u l.at l.out.now) s.1 r)
