-- The room that is made is the header's.
use Rattle.headers.proofs.Names.{◌+◌, ◌<◌, ◌≤◌, ℕ, subst, vec_len, vec_capacity}
use Rattle.headers.proofs.writing.write_header.Goals as goal

pub returns-in-Err-clause-full : goal.returns-in-Err-clause-full
returns-in-Err-clause-full c = λ _.
    subst (λ (n : ℕ). vec_capacity c.args.out.now < vec_len c.args.out.now + n) (c.in-Some.ensures.1 c.args.size) c.in-Err.ensures.full

pub put_header-requires-clause-room : goal.put_header-requires-clause-room
put_header-requires-clause-room c =
    subst (λ (n : ℕ). vec_len c.reserve.new.self + n ≤ vec_capacity c.reserve.new.self) (c.in-Some.ensures.1 c.args.size) c.in-Ok.ensures.ok
