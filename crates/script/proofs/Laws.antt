-- Where a line ends, byte by byte: a newline ends it, another byte is passed, and so it ends within the input. The reply of a turn, and its room.
-- By the clauses of `line_length` at what is left of the input, by the room that `reply_to` asks for, and by the length of what a reply leaves.
use mathlib.Core.Path.{◌≡◌, refl, ap, subst, ◌∙◌}
use mathlib.Core.Bool.{Bool, true, false, cond}
use mathlib.Core.List.{List, [], ◌∷◌}
use Prim.Native.Nat.{ℕ, suc, ◌+◌, ◌-◌, ◌≤◌, ◌<◌}
use native.Mathlib.Omega.{arith}
use lib.Dec.{eqb}
use borrow.Author.Tests.{eq-eqb, ne_eqb, le-ltb}
use lib.ListN.{length, get_or, take, drop, drop_of_length-le, length-append, length-take, length-drop}
use Rattle.std.proofs.Common.{Option}
use Rattle.std.specs.List.{position, position_or_len}
use Rattle.std.specs.Option.{unwrap_or}
use Rattle.std.proofs.lemmas.List.Sums.{prefix_len-le-length}
use Rattle.std.proofs.lemmas.List.Recursion.{is_position_or_len}
use Rattle.std.proofs.lemmas.Bool.Decides.{nat_tests}
use Rattle.text.specs.Bytes.{newline, reply_room}
use Rattle.text.specs.Script.{Reply, reply, replied_to, reply_to}
use Rattle.text.specs.declared.Script.{Script}
use Rattle.text_reply.specs.declared.Replied.{Replied}
use Rattle.text_reply.specs.Replies.{ReplyAs}
use Rattle.script.specs.declared.Turned.{Turned}
use Rattle.script.specs.LineEnd.{line_length, line_end, line_at}
use Rattle.script.specs.Turns.{TurnAs}

-- a test, decided
pub by_test : {A : Type 0} (t : Bool) → (t ≡ true → A) → (t ≡ false → A) → A
by_test true f g = f refl
by_test false f g = g refl

-- `position` of a newline, or the length for none
line_place : (bs : List ℕ) → line_length bs ≡ position_or_len (λ b. eqb b newline) bs
unfolding line_length
line_place bs =
    is_position_or_len line_length (λ b. eqb b newline) refl
    (λ c cs. let e : suc (line_length cs) ≡ 1 + line_length cs = omega arith in ap (λ (n : ℕ). cond (eqb c newline) 0 n) e) bs

pub end_found : (bs : List ℕ) (r : Option ℕ) → r ≡ position (λ b. eqb b newline) bs → unwrap_or r (length bs) ≡ line_length bs
end_found bs r e =
    let k = position_or_len (λ b. eqb b newline) bs in
    let low : k ≤ length bs = prefix_len-le-length _ bs in
    rw (e, line_place bs) (grind (arith, nat_tests, low))

length_within : (bs : List ℕ) → line_length bs ≤ length bs
unfolding line_length
length_within [] = omega arith
length_within (b ∷ bs) = go (eqb b newline) (length_within bs)
  where
    go : (t : Bool) → line_length bs ≤ length bs → cond t 0 (suc (line_length bs)) ≤ suc (length bs)
    go true h = omega arith
    go false h = omega arith

pub end_within : (bs : List ℕ) (i : ℕ) → i ≤ length bs → line_end bs i ≤ length bs
end_within bs i l = let h = length_within (drop i bs) in let d = length-drop i bs in omega arith

-- THE REPLY OF A TURN: to the line, where the bytes go up to its end and the room is enough
pub reply_at_law : {ws' out out' : List ℕ} {r : Replied} (ws : List ℕ) (z : Script) (bs : List ℕ) (at end : ℕ) → end ≡ line_end bs at →
    reply_room ≤ length out → ReplyAs (reply_to ws z (take (end - at) (drop at bs)) (length out)) r ws' out out' →
    ReplyAs (replied_to ws z (line_at bs at)) r ws' out out'
reply_at_law {ws'} {out} {out'} {r} ws z bs at end e l a =
    let line : List ℕ = take (end - at) (drop at bs) in
    let b = subst (λ (t : Bool). ReplyAs (cond t (reply [] ws z) (replied_to ws z line)) r ws' out out') (le-ltb (length out) reply_room l) a in
    subst (λ (n : ℕ). ReplyAs (replied_to ws z (take (n - at) (drop at bs))) r ws' out out') e b

-- its bytes are within what they are written over
pub turn_within : {p : Reply} {end : ℕ} {r : Turned} {ws out out' : List ℕ} → TurnAs p end r ws out out' → r.size ≤ length out'
turn_within {p} {out = out} a = let l = length-append p.text (drop (length p.text) out) in omega (arith, a.size, ap length a.bytes)

-- so many bytes of a part are within the whole
pub part_within : (n a k : ℕ) (bs : List ℕ) → a ≤ length bs → n ≤ length (take k (drop a bs)) → a + n ≤ length bs
part_within n a k bs l h = let t = length-take k (drop a bs) in let d = length-drop a bs in omega arith
