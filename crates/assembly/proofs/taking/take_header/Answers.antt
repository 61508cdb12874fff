use Rattle.assembly.proofs.Imports.{◌≡◌, ◌∙◌, refl, sym, subst, Wants_header, TakesPayload, taken_dropped, seen, pending_of, TakesEffect, Awaited}
use Rattle.assembly.proofs.Codes.{map_fault, does_wider, the_publish, takes_large, takes_small, takes_unsized}
use Rattle.assembly.proofs.Limits.{small_at}
use Rattle.assembly.proofs.taking.take_header.Goals as goal

pub returns-then-is_too_large-clause-does : goal.returns-then-is_too_large-clause-does
returns-then-is_too_large-clause-does c =
    let f = seen c.args.frame.now in
    let was = c.args.pending.now in
    does_wider (λ t. t ≡ taken_dropped f.channel c.in-Ok.size 0) (TakesPayload c.args.keeps (pending_of was) f) (pending_of was) (pending_of c.drop_begun.new.pending) c.drop_begun.result
    (λ t e. takes_large c.args.keeps was f c.in-Ok.size t c.requires.begun c.in-Ok.ensures (sym c.is_too_large.ensures ∙ c.if-is_too_large.true) e)
    c.drop_begun.ensures.does

pub returns-else-is_too_large-clause-does : goal.returns-else-is_too_large-clause-does
returns-else-is_too_large-clause-does c =
    let f = seen c.args.frame.now in
    let now = pending_of c.begin_content.new.pending in
    let result = c.begin_content.result in
    let was = the_publish c.args.pending.now c.requires.begun in
    subst (λ (q : Awaited). TakesEffect (TakesPayload c.args.keeps (pending_of q) f) (pending_of q) result now) (sym was.1)
    (does_wider _ (TakesPayload c.args.keeps (Wants_header was.0) f) (Wants_header was.0) now result
    (λ t x. takes_small c.args.keeps was.0 f c.in-Ok.size t c.in-Ok.ensures (sym c.is_too_large.ensures ∙ c.if-is_too_large.false) x)
    (c.begin_content.ensures.does was.0 was.1))

pub returns-in-Err-clause-does : goal.returns-in-Err-clause-does
returns-in-Err-clause-does c =
    let f = seen c.args.frame.now in
    (map_fault _ _ c.of_size.result (λ code s. takes_unsized c.args.keeps c.args.pending.now f code c.requires.begun s) (c.of_size.ensures f.payload c.in-Err.ensures), refl)

pub begin_content-requires-clause-small : goal.begin_content-requires-clause-small
begin_content-requires-clause-small c = small_at c.args.frame.now.payload.now c.in-Ok.size c.in-Ok.ensures (sym c.is_too_large.ensures ∙ c.if-is_too_large.false)
