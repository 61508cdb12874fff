use Rattle.engine.proofs.Names.{None, Some, Option, inl, inr, refl, sym, subst, GoesOn, Event, stream_of, HasFront, GivesCommand, Stops, ComesNext}
use Rattle.engine.proofs.Turned.{kept_next, read_has, not_some, coming_on, front_more}
use Rattle.engine.proofs.reading.read_next.Goals as goal

pub returns-then-is_some-clause-ok : goal.returns-then-is_some-clause-ok
returns-then-is_some-clause-ok c = kept_next c.args.number c.args.kept.now c.args.stream.now.fault (stream_of c.args.stream.now) (sym c.if-is_some.ensures) c.requires

pub returns-in-Ok-Some-clause-ok : goal.returns-in-Ok-Some-clause-ok
returns-in-Ok-Some-clause-ok c =
    let gives : GivesCommand (stream_of c.args.stream.now) c.in-Ok-Some.command (stream_of c.next.new.stream) = rw c.in-Ok-Some.field-0-is at c.in-Ok-Some.ensures.yields in
    subst (λ (k : Option Event). ComesNext c.args.number c.args.kept.now (stream_of c.args.stream.now) k c.next.new.stream.fault (stream_of c.next.new.stream)) (sym c.keep.ensures)
    (inl (read_has c.args.number c.args.kept.now _ c.in-Ok-Some.command c.next.new.stream.fault (stream_of c.args.stream.now) (stream_of c.next.new.stream) (not_some c.args.kept.now (sym c.if-is_some.ensures))
    refl gives.next gives.command gives.shorter c.in-Ok-Some.ensures.keeps))

pub returns-in-Ok-None-clause-ok : goal.returns-in-Ok-None-clause-ok
returns-in-Ok-None-clause-ok c =
    let none = not_some c.args.kept.now (sym c.if-is_some.ensures) in
    let ends : Stops (stream_of c.args.stream.now) None (stream_of c.next.new.stream) = rw c.in-Ok-None.field-0-is at c.in-Ok-None.ensures.yields in
    subst (λ (k : Option Event). ComesNext c.args.number c.args.kept.now (stream_of c.args.stream.now) k c.next.new.stream.fault (stream_of c.next.new.stream)) (sym none) (none, ends.ends, ends.same)

pub returns-in-Err-Broken-clause-ok : goal.returns-in-Err-Broken-clause-ok
returns-in-Err-Broken-clause-ok c =
    let broke : Stops (stream_of c.args.stream.now) (Some c.in-Err-Broken.code) (stream_of c.next.new.stream) = rw c.in-Err-Broken.field-0-is at c.in-Err-Broken.ensures.yields in
    subst (λ (k : Option Event). ComesNext c.args.number c.args.kept.now (stream_of c.args.stream.now) k c.next.new.stream.fault (stream_of c.next.new.stream)) (sym c.keep_fault.ensures)
    (inr (record { code = c.in-Err-Broken.code; is = refl; none_kept = not_some c.args.kept.now (sym c.if-is_some.ensures); ends = broke.ends; on = broke.same }))

pub returns-in-Err-Memory-clause-err : goal.returns-in-Err-Memory-clause-err
returns-in-Err-Memory-clause-err c =
    let wants : GoesOn (stream_of c.args.stream.now) (stream_of c.next.new.stream) × HasFront (stream_of c.args.stream.now) = rw c.in-Err-Memory.field-0-is at c.in-Err-Memory.ensures.yields in
    coming_on c.args.kept.now None _ _ (not_some c.args.kept.now (sym c.if-is_some.ensures)) refl wants.0

pub returns-in-Err-Memory-clause-wants : goal.returns-in-Err-Memory-clause-wants
returns-in-Err-Memory-clause-wants c =
    let wants : GoesOn (stream_of c.args.stream.now) (stream_of c.next.new.stream) × HasFront (stream_of c.args.stream.now) = rw c.in-Err-Memory.field-0-is at c.in-Err-Memory.ensures.yields in
    front_more c.args.kept.now (stream_of c.args.stream.now) (not_some c.args.kept.now (sym c.if-is_some.ensures)) wants.1

pub returns-in-Err-Memory-clause-none : goal.returns-in-Err-Memory-clause-none
returns-in-Err-Memory-clause-none c = not_some c.args.kept.now (sym c.if-is_some.ensures)
