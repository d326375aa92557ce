-- `text_reply::told` meets its contract: the line that tells what was seen, over the alphabet's part of the two arrays, and the script as it was.
-- The arrays have 64 places, so what is taken of them by a smaller count is what is taken by the script's own.
use mathlib.Core.Path.{◌≡◌}
use lib.ListN.{length}
use borrow.Author.Rules.{rules}
use Rattle.model.specs.Limits.{most_symbols}
use Rattle.text_reply.proofs.Laws.Replying.{in_within, in_counted, tellable_in, told_in}
use Rattle.text_reply.proofs.told.Statement.{statement}
use Rattle.text_reply.proofs.told.Tie as tie

letters-in-requires : tie.Need-letters_in-n-requires
letters-in-requires c κs = search rules

array-share-prefix-counts : tie.Need-slice_bounds-counts-end
array-share-prefix-counts c =
    let z = c.args.script in
    let e : length z.lists.counts ≡ most_symbols = search rules in
    in_within z.lists.counts e z.lists.letters c.letters_in-n.ensures.1

slice-aggregate-tell : tie.Need-slice_bounds-tell-end
slice-aggregate-tell c =
    let z = c.args.script in
    let e : length z.lists.counts ≡ most_symbols = search rules in
    in_counted z.lists.counts e z.lists.letters c.letters_in-n.ensures.1

array-share-prefix-letters : tie.Need-slice_bounds-letters-end
array-share-prefix-letters c =
    let z = c.args.script in
    let e : length z.letters ≡ most_symbols = search rules in
    in_within z.letters e z.lists.letters c.letters_in-n.ensures.1

slice-aggregate-tell-2 : tie.Need-slice_bounds-tell-end-2
slice-aggregate-tell-2 c =
    let z = c.args.script in
    let e : length z.letters ≡ most_symbols = search rules in
    in_counted z.letters e z.lists.letters c.letters_in-n.ensures.1

tell-requires : tie.Need-tell-size-requires
tell-requires c κs =
    let s = c.before.before.before.before.before.before.before.before.before in
    let z = s.args.script in
    let a : length z.letters ≡ most_symbols = search rules in
    let b : length z.lists.counts ≡ most_symbols = search rules in
    (tellable_in z a b c.letters_in-n.ensures.1 s.requires.0, s.requires.1)

same_length : tie.Need-shape_of-out
same_length c = search rules

returns : tie.Need-returns
returns c =
    let s = c.before.before.before.before.before.before.before.before.before.before.before.before in
    let z = s.args.script in
    let a : length z.letters ≡ most_symbols = search rules in
    let b : length z.lists.counts ≡ most_symbols = search rules in
    told_in z a b c.letters_in-n.ensures.1 s.args.words.now s.args.seen c.tell-size.ensures.0 c.tell-size.ensures.1

pub told_spec : {M : Type 1} → statement M
told_spec =
    tie.close
    (tie.spec
    letters-in-requires
    array-share-prefix-counts
    slice-aggregate-tell
    array-share-prefix-letters
    slice-aggregate-tell-2
    tell-requires
    same_length
    returns)
