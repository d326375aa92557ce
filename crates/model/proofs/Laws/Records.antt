-- A record over the alphabet against its symbols, children before parent: put on a stack they give it back, they have no fault, and where their row is known it has the record's tree.
-- By induction on the record and its children, over any stack and any symbols behind: a parent takes the children on top. A known row is where storing adds nothing.
use mathlib.Core.Path.{◌≡◌, refl, sym, ap, ◌∙◌}
use mathlib.Core.Logic.{◌≢◌}
use mathlib.Core.Bool.{Bool, true, false, cond}
use mathlib.Core.List.{List, [], ◌∷◌, ◌++◌, append_assoc, append-nil}
use Prim.Native.Nat.{ℕ, suc, ◌+◌, ◌-◌, ◌≤◌, ◌<◌}
use native.Mathlib.Omega.{arith}
use lib.Dec.{ltb, eqb}
use lib.ListN.{length, length-append, get_or, drop}
use lib.Seq.{take_at, drop_at}
use borrow.Author.Tests.{le-ltb, lt-leb}
use Rattle.model.specs.Base.{backwards, top, each_nil}
use Rattle.model.specs.Store.{Store, used, count_of, find_row, full, built, then_build, added}
use Rattle.model.specs.Terms.{Tree, tree, Forest, leaf, grove, forest, tree_with, hole_tree, child_count, Over, over_tree, AllOver, over_grove, eval_tree, eval_forest, tree_at, eval_from, tree_of, listed, symbols_of, symbols_fault, store_from, known_from, known_row}
use Rattle.model.specs.Facts.{Good, Parses}
use Rattle.model.proofs.Laws.Listed.{stored}

-- the symbols of the children
abbrev pub lists_of : Forest → List (List ℕ)
lists_of ts = eval_forest listed ts

-- READ BACK: children taken off a stack, in front of those to come
ahead : List Tree → Forest → Forest
ahead [] ts = ts
ahead (t ∷ us) ts = ahead us (grove t ts)

forest_ahead : (us ts : List Tree) → forest (backwards us ts) ≡ ahead us (forest ts)
unfolding forest backwards ahead
forest_ahead [] ts = refl
forest_ahead (u ∷ us) ts = forest_ahead us (u ∷ ts)

abbrev trees : (counts symbols : List ℕ) → (stack : List Tree) → Tree
trees ns xs st = eval_from tree_with hole_tree ns xs st

-- the parent
parent : (ns : List ℕ) (a : ℕ) (us st : List Tree) (xs : List ℕ) → length us ≡ get_or ns a 0 → trees ns (a ∷ xs) (us ++ st) ≡ trees ns xs (tree a (ahead us leaf) ∷ st)
unfolding eval_from forest
parent ns a us st xs n =
    let p = take_at us st (get_or ns a 0) n in
    let q = drop_at us st (get_or ns a 0) n in
    ap (λ (vs : List Tree). trees ns xs (tree_with a (backwards vs []) ∷ drop (get_or ns a 0) (us ++ st))) p ∙
    ap (λ (vs : List Tree). trees ns xs (tree_with a (backwards us []) ∷ vs)) q ∙ ap (λ (ts : Forest). trees ns xs (tree a ts ∷ st)) (forest_ahead us [])

module _ (ns : List ℕ) where
  mutual
    unfolding eval_tree eval_forest listed child_count ahead

    record_stacked : (t : Tree) → Over ns t → (xs : List ℕ) (st : List Tree) → trees ns (symbols_of t ++ xs) st ≡ trees ns xs (t ∷ st)
    record_stacked (tree a ts) (over_tree l n os) xs st = children_stacked ts os a [] xs st (omega (arith, n))

    children_stacked : (ts : Forest) → AllOver ns ts → (a : ℕ) (us : List Tree) (xs : List ℕ) (st : List Tree) → length us + child_count ts ≡ get_or ns a 0 →
        trees ns (listed a (lists_of ts) ++ xs) (us ++ st) ≡ trees ns xs (tree a (ahead us ts) ∷ st)
    children_stacked leaf os a us xs st n = parent ns a us st xs (omega arith)
    children_stacked (grove t ts) (over_grove o os) a us xs st n =
        ap (λ (v : List ℕ). trees ns v (us ++ st)) (append_assoc (symbols_of t) (listed a (lists_of ts)) xs) ∙
        record_stacked t o (listed a (lists_of ts) ++ xs) (us ++ st) ∙ children_stacked ts os a (t ∷ us) xs st (omega arith)

  pub symbols_back : (t : Tree) → Over ns t → tree_of ns (symbols_of t) ≡ t
  unfolding eval_from
  symbols_back t o = ap (λ (v : List ℕ). trees ns v []) (sym (append-nil (symbols_of t))) ∙ record_stacked t o [] []

-- NO FAULT: a known symbol that finds its children passes, and each record leaves one tree more
symbol_passes : (ns : List ℕ) (k a : ℕ) (xs : List ℕ) → a < length ns → get_or ns a 0 ≤ k → symbols_fault ns k (a ∷ xs) ≡ symbols_fault ns (k - get_or ns a 0 + 1) xs
unfolding symbols_fault
symbol_passes ns k a xs l m =
    ap (λ (z : Bool). cond z 13 (cond (ltb k (get_or ns a 0)) 14 (symbols_fault ns (k - get_or ns a 0 + 1) xs))) (lt-leb (length ns) a l) ∙
    ap (λ (z : Bool). cond z 14 (symbols_fault ns (k - get_or ns a 0 + 1) xs)) (le-ltb k (get_or ns a 0) m)

module _ (ns : List ℕ) where
  mutual
    unfolding eval_tree eval_forest listed child_count

    record_passes : (t : Tree) → Over ns t → (k : ℕ) (xs : List ℕ) → symbols_fault ns k (symbols_of t ++ xs) ≡ symbols_fault ns (k + 1) xs
    record_passes (tree a ts) (over_tree l n os) k xs =
        let e : k + child_count ts - get_or ns a 0 + 1 ≡ k + 1 = omega (arith, n) in
        children_pass ts os a k xs l (omega (arith, n)) ∙ ap (λ (j : ℕ). symbols_fault ns j xs) e

    children_pass : (ts : Forest) → AllOver ns ts → (a k : ℕ) (xs : List ℕ) → a < length ns → get_or ns a 0 ≤ k + child_count ts →
        symbols_fault ns k (listed a (lists_of ts) ++ xs) ≡ symbols_fault ns (k + child_count ts - get_or ns a 0 + 1) xs
    children_pass leaf os a k xs l m =
        let e : k - get_or ns a 0 + 1 ≡ k + 0 - get_or ns a 0 + 1 = omega arith in
        symbol_passes ns k a xs l (omega arith) ∙ ap (λ (j : ℕ). symbols_fault ns j xs) e
    children_pass (grove t ts) (over_grove o os) a k xs l m =
        let e : k + 1 + child_count ts - get_or ns a 0 + 1 ≡ k + suc (child_count ts) - get_or ns a 0 + 1 = omega arith in
        ap (symbols_fault ns k) (append_assoc (symbols_of t) (listed a (lists_of ts)) xs) ∙ record_passes t o k (listed a (lists_of ts) ++ xs) ∙
        children_pass ts os a (k + 1) xs l (omega arith) ∙ ap (λ (j : ℕ). symbols_fault ns j xs) e

  pub symbols_faultless : (t : Tree) → Over ns t → symbols_fault ns 0 (symbols_of t) ≡ 0
  unfolding symbols_fault
  symbols_faultless t o = ap (symbols_fault ns 0) (sym (append-nil (symbols_of t))) ∙ record_passes t o 0 []

some_listed : (a : ℕ) (xss : List (List ℕ)) → 0 < length (listed a xss)
unfolding listed
some_listed a [] = omega arith
some_listed a (xs ∷ xss) = let r = some_listed a xss in let e = length-append xs (listed a xss) in omega arith

pub some_symbols : (t : Tree) → 0 < length (symbols_of t)
unfolding eval_tree
some_symbols (tree a ts) = some_listed a (lists_of ts)

-- KNOWN: where the row is there already, storing finds it and adds nothing
known_stored : (xs : List ℕ) (x : Store) (is : List ℕ) → known_from x xs is ≢ 0 → store_from x xs is ≡ built (known_from x xs is) x
unfolding store_from known_from
known_stored [] x [] n = absurd (n refl)
known_stored [] x (i ∷ is) n = refl
known_stored (a ∷ xs) x is n = go (known_stored xs x (j ∷ rest)) (eqb j 0) refl n
  where
    ks : List ℕ
    ks = top (count_of x a) is

    j : ℕ
    j = find_row x a ks

    rest : List ℕ
    rest = drop (count_of x a) is

    go : (known_from x xs (j ∷ rest) ≢ 0 → store_from x xs (j ∷ rest) ≡ built (known_from x xs (j ∷ rest)) x) → (b : Bool) → eqb j 0 ≡ b → cond b 0 (known_from x xs (j ∷ rest)) ≢ 0 →
        then_build (cond b (cond (ltb (used x) x.room) (built (used x) (added x a ks)) full) (built j x)) (λ (i : ℕ) (y : Store). store_from y xs (i ∷ rest)) ≡
        built (cond b 0 (known_from x xs (j ∷ rest))) x
    go ih true p m = absurd (m refl)
    go ih false p m = ih m

pub known_tree : (x : Store) → Good x → (xs : List ℕ) → Parses x.counts 0 xs → known_row x xs ≢ 0 →
    (known_row x xs < used x) × (tree_at x (known_row x xs) ≡ tree_of x.counts xs)
known_tree x g xs ps n =
    let s = stored xs x g 0 [] each_nil refl ps (known_row x xs) x (known_stored xs x [] n) in
    (s.is_record_law.within, s.value tree_with hole_tree)
