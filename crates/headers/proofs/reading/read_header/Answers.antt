-- What the fields and the properties say tells what the payload says.
use Rattle.headers.proofs.Names.{◌∙◌, take_rest, no_header}
use Rattle.headers.proofs.Parts.{behind_size, not_header}
use Rattle.headers.proofs.Told.{header_said, header_refused, header_only, header_none}
use Rattle.headers.proofs.reading.read_header.Goals as goal

pub returns-in-None-clause-read : goal.returns-in-None-clause-read
returns-in-None-clause-read c = no_header c.in-None.ensures

pub returns-in-None-clause-only : goal.returns-in-None-clause-only
returns-in-None-clause-only c = λ h lt fits e. not_header c.args.payload.now _ h.size _ e c.in-None.ensures

pub properties_in-requires : goal.properties_in-requires
properties_in-requires c =
    take_rest c.args.payload.now 12 ∙ behind_size c.args.payload.now c.in-Some.rest.now c.in-Some.size c.in-Some.flags (λ i. (c.type_inv.payload i).fits) c.in-Some.ensures

pub returns-in-Ok-clause-read : goal.returns-in-Ok-clause-read
returns-in-Ok-clause-read c =
    let g = c.in-Ok.ensures in
    header_said c.args.payload.now c.in-Some.rest.now c.in-Some.size c.in-Some.flags c.in-Ok.properties (λ i. (c.type_inv.payload i).fits) c.in-Some.ensures g.0 g.1

pub returns-in-Ok-clause-only : goal.returns-in-Ok-clause-only
returns-in-Ok-clause-only c = λ h lt fits e.
    let g = c.in-Ok.ensures in
    header_only c.args.payload.now c.in-Some.rest.now c.in-Some.size c.in-Some.flags c.in-Ok.properties h c.in-Some.ensures g.0 lt fits e

pub returns-in-Err-clause-read : goal.returns-in-Err-clause-read
returns-in-Err-clause-read c = header_refused c.args.payload.now c.in-Some.rest.now c.in-Some.size c.in-Some.flags c.in-Err.refusal c.in-Some.ensures c.in-Err.ensures

pub returns-in-Err-clause-only : goal.returns-in-Err-clause-only
returns-in-Err-clause-only c = λ h lt fits e.
    header_none c.args.payload.now c.in-Some.rest.now c.in-Some.size c.in-Some.flags c.in-Err.refusal h c.in-Some.ensures c.in-Err.ensures lt fits e
