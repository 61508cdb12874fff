use Rattle.guarantees.proofs.Names.{Absent, Worded, TooMany, FileCause, AreClear}
use Rattle.json_file.proofs.Order.{least}
use Rattle.guarantees.proofs.Judging.{all_clear, below_counts, below_names, below_words}
use Rattle.guarantees.proofs.reading.check_guarantees.Goals as goal

pub returns-then-not-all_there : goal.returns-then-not-all_there
returns-then-not-all_there c =
    let t = c.args.topology.now in
    let gs = c.args.guarantees.now in
    least (λ (bad : FileCause). AreClear bad t gs) Absent c.all_there.result (below_names t gs) c.all_there.ensures c.if-not-all_there.true

pub returns-then-not-all_worded : goal.returns-then-not-all_worded
returns-then-not-all_worded c =
    let t = c.args.topology.now in
    let gs = c.args.guarantees.now in
    let there = c.all_there.ensures.0 c.if-not-all_there.false in
    least (λ (bad : FileCause). AreClear bad t gs) Worded c.all_worded.result (below_words t gs there) c.all_worded.ensures c.if-not-all_worded.true

pub returns-then-not-are_few : goal.returns-then-not-are_few
returns-then-not-are_few c =
    let t = c.args.topology.now in
    let gs = c.args.guarantees.now in
    let there = c.all_there.ensures.0 c.if-not-all_there.false in
    let worded = c.all_worded.ensures.0 c.if-not-all_worded.false in
    least (λ (bad : FileCause). AreClear bad t gs) TooMany c.are_few.result (below_counts t gs there worded) c.are_few.ensures c.if-not-are_few.true

pub returns : goal.returns
returns c =
    let t = c.args.topology.now in
    let gs = c.args.guarantees.now in
    let there = c.all_there.ensures.0 c.if-not-all_there.false in
    let worded = c.all_worded.ensures.0 c.if-not-all_worded.false in
    all_clear t gs there worded (c.are_few.ensures.0 c.if-not-are_few.false)
