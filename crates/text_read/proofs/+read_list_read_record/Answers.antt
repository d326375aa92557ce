-- `text_read`: the readers meet their contracts: each way out gives what the definition gives there.
use Rattle.std.proofs.Common.{arith, rules, length, slice_index_or, ◌≡◌, ◌<◌, ◌≤◌, ◌/◌, ◌+◌}
use Rattle.text_read.proofs.Laws.{Tried, record_end, record_opens, record_closes, list_unread, list_end, list_closes, list_stops, list_full, list_goes}
use Rattle.text_read.proofs.+read_list_read_record.Goals as goal

pub read_list-returns-then-child_read-eq0 : goal.read_list-returns-then-child_read-eq0
read_list-returns-then-child_read-eq0 t c =
    let a = c.args in
    let h : Tried a.text.now a.known.now a.at a.size c.read_record-child_read.result c.read_record-child_read.new.text = record { reads = c.requires.0; came = c.read_record-child_read.ensures } in
    list_unread h a.letter a.child c.if-child_read-eq0.true

pub read_list-returns-in-Some-eq93 : goal.read_list-returns-in-Some-eq93
read_list-returns-in-Some-eq93 t c =
    let a = c.args in
    let r = c.read_record-child_read.result in
    let cs = c.read_record-child_read.new.text in
    let h : Tried a.text.now a.known.now a.at a.size r cs = record { reads = c.requires.0; came = c.read_record-child_read.ensures } in
    let l : r / 131072 < length cs = search rules in
    let b : slice_index_or cs (r / 131072) 0 ≡ 93 = search rules in
    list_closes h a.letter a.child c.if-child_read-eq0.false l c.close.result c.close.new.text b c.close.ensures

pub read_list-returns-in-Some-eq44 : goal.read_list-returns-in-Some-eq44
read_list-returns-in-Some-eq44 t c =
    let a = c.args in
    let r = c.read_record-child_read.result in
    let cs = c.read_record-child_read.new.text in
    let h : Tried a.text.now a.known.now a.at a.size r cs = record { reads = c.requires.0; came = c.read_record-child_read.ensures } in
    let l : r / 131072 < length cs = search rules in
    let b : slice_index_or cs (r / 131072) 0 ≡ 44 = search rules in
    list_goes h a.letter a.child c.if-child_read-eq0.false l (λ e. omega arith) c.read_list.result c.read_list.new.text b c.if-child-lt4.true c.read_list.ensures

pub read_list-returns-in_default : goal.read_list-returns-in_default
read_list-returns-in_default t c =
    let a = c.args in
    let r = c.read_record-child_read.result in
    let cs = c.read_record-child_read.new.text in
    let h : Tried a.text.now a.known.now a.at a.size r cs = record { reads = c.requires.0; came = c.read_record-child_read.ensures } in
    let l : r / 131072 < length cs = search rules in
    let b : slice_index_or cs (r / 131072) 0 ≡ 44 = search rules in
    list_full h a.letter a.child c.if-child_read-eq0.false l (λ e. omega arith) (omega arith)

pub read_list-returns-in_default-2 : goal.read_list-returns-in_default-2
read_list-returns-in_default-2 t c =
    let a = c.args in
    let r = c.read_record-child_read.result in
    let cs = c.read_record-child_read.new.text in
    let h : Tried a.text.now a.known.now a.at a.size r cs = record { reads = c.requires.0; came = c.read_record-child_read.ensures } in
    let l : r / 131072 < length cs = search rules in
    let b : slice_index_or cs (r / 131072) 0 ≡ c.in_default.field-0 = search rules in
    list_stops h a.letter a.child c.if-child_read-eq0.false l (λ e. search (rules, b, e)) (λ e. search (rules, b, e))

pub read_list-returns-in_default-3 : goal.read_list-returns-in_default-3
read_list-returns-in_default-3 t c =
    let a = c.args in
    let r = c.read_record-child_read.result in
    let cs = c.read_record-child_read.new.text in
    let h : Tried a.text.now a.known.now a.at a.size r cs = record { reads = c.requires.0; came = c.read_record-child_read.ensures } in
    let l : length cs ≤ r / 131072 = search rules in
    list_end h a.letter a.child c.if-child_read-eq0.false l

pub read_record-returns-in_default : goal.read_record-returns-in_default
read_record-returns-in_default t c =
    let l : length c.args.text.now ≤ c.args.at = search rules in
    record_end c.requires l

pub read_record-returns-then-eq : goal.read_record-returns-then-eq
read_record-returns-then-eq t c =
    let a = c.args in
    let l : a.at + 1 < length a.text.now = search rules in
    let b : slice_index_or a.text.now (a.at + 1) 0 ≡ 91 = search rules in
    let d : slice_index_or a.text.now a.at 0 ≡ c.in-Some.letter = search rules in
    record_opens c.requires (omega (arith, l)) c.read_list.result c.read_list.new.text l b (rw d c.read_list.ensures)

pub read_record-returns : goal.read_record-returns
read_record-returns t c =
    let a = c.args in
    let l : a.at < length a.text.now = search rules in
    let d : slice_index_or a.text.now a.at 0 ≡ c.in-Some.letter = search rules in
    let n : a.at + 1 < length a.text.now → slice_index_or a.text.now (a.at + 1) 0 ≡ 91 → ⊥ = λ m e. search (rules, m, e) in
    record_closes c.requires l c.close.result c.close.new.text n (rw d c.close.ensures)
