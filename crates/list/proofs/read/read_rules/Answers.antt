-- `list::read::read_rules` meets its contract: a block more is a rule more, held against those before it by their numbers.
use Rattle.std.proofs.Common.{◌≡◌, refl, sym, ap, ◌∙◌, true, false, List, ℕ, length, take, replicate, arith}
use Rattle.model.specs.Limits.{most_rules}
use Rattle.model.specs.Listing.{is_block, rule_in}
use Rattle.model.specs.Entry.{loaded_by}
use Rattle.list.specs.Blocks.{rules_in, key_of, is_new}
use Rattle.list.proofs.Fits.{finals_few}
use Rattle.list.proofs.Walk.{length_rules_in}
use Rattle.list.proofs.Keys.{new_rule, keyed_first, keyed_next}
use Rattle.list.proofs.Reading.{reading_first, reading_end, reading_stop, reading_next, reading_full}
use Rattle.list.proofs.read.read_rules.Goals as goal

pub loop-count-init : goal.loop-count-init
loop-count-init c =
    let a = c.args in
    record {
      reading = reading_first a.counts.now a.finals.now a.bytes.now;
      keyed = keyed_first a.counts.now (length a.finals.now) a.bytes.now (replicate most_rules 0) refl;
    }

pub returns-then-not-is_block : goal.returns-then-not-is_block
returns-then-not-is_block c =
    let a = c.args in
    let l = c.loop-count in
    let e : is_block 3 l.at.now ≡ false = cc in
    c.behind_rules.ensures a.counts.now a.finals.now (rules_in l.count a.bytes.now) (length_rules_in l.count a.bytes.now) ∙ ap loaded_by (sym (reading_end l.invariant.reading e))

pub returns-then-not-is_rule : goal.returns-then-not-is_rule
returns-then-not-is_rule c =
    let a = c.args in
    let l = c.loop-count in
    let e : is_block 3 l.at.now ≡ true = cc in
    let f : is_new a.counts.now (length a.finals.now) (take l.count l.keys) l.at.now ≡ false = cc in
    let n = new_rule a.counts.now (length a.finals.now) c.requires.0 (finals_few a.finals.now c.requires.1) (rules_in l.count a.bytes.now) (take l.count l.keys) l.at.now l.invariant.keyed.are l.invariant.keyed.fit in
    ap loaded_by (sym (reading_stop l.invariant.reading e (sym n ∙ f)))

pub loop-count-preserved : goal.loop-count-preserved
loop-count-preserved c =
    let a = c.args in
    let l = c.loop-count in
    let e : is_block 3 l.at.now ≡ true = cc in
    let f : is_new a.counts.now (length a.finals.now) (take l.count l.keys) l.at.now ≡ true = cc in
    let n = new_rule a.counts.now (length a.finals.now) c.requires.0 (finals_few a.finals.now c.requires.1) (rules_in l.count a.bytes.now) (take l.count l.keys) l.at.now l.invariant.keyed.are l.invariant.keyed.fit in
    record {
      reading = reading_next l.invariant.reading e (omega arith) (sym n ∙ f) c.rest-at.result.now c.rest-at.ensures;
      keyed = keyed_next l.invariant.keyed (omega arith) l.at.now l.invariant.reading.place f c.key_of.result (c.key_of.ensures ∙ ap (λ (us : List ℕ). key_of (rule_in us)) c.body.ensures);
    }

pub returns : goal.returns
returns c =
    let a = c.args in
    let l = c.loop-count in
    let n : length (rules_in l.count a.bytes.now) ≡ 256 = omega (arith, length_rules_in l.count a.bytes.now) in
    c.behind_rules-2.ensures a.counts.now a.finals.now (rules_in l.count a.bytes.now) n ∙ ap loaded_by (sym (reading_full l.invariant.reading (omega arith)))
