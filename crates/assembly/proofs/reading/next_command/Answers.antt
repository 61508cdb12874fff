use Rattle.assembly.proofs.Imports.{◌∙◌, sym, arith, stays, seen, pending_at}
use Rattle.std.proofs.lemmas.List.{length-drop, take_all}
use Rattle.assembly.proofs.Onwards.{ended, unframed, refused, made, on}
use Rattle.assembly.proofs.Whole.{given}
use Rattle.assembly.proofs.reading.next_command.Goals as goal

pub frames-init : goal.frames-init
frames-init c = record { spelled = c.requires.spelled; goes = stays; shorter = omega arith }

pub returns-in-More-clause-answers : goal.returns-in-More-clause-answers
returns-in-More-clause-answers c =
    ended _ c.args.max c.args.keeps (pending_at c.frames.contents.items) c.bytes-bytes.result.now c.frames.unread.bytes c.frames.invariant.goes c.bytes-bytes.ensures c.in-More.ensures.read

pub returns-in-Fault-clause-answers : goal.returns-in-Fault-clause-answers
returns-in-Fault-clause-answers c =
    unframed _ c.args.max c.args.keeps (pending_at c.frames.contents.items) c.bytes-bytes.result.now c.frames.unread.bytes c.in-Fault.code c.frames.invariant.goes c.bytes-bytes.ensures c.in-Fault.ensures.read

pub returns-then-is_err-clause-answers : goal.returns-then-is_err-clause-answers
returns-then-is_err-clause-answers c =
    refused _ c.args.max c.args.keeps (pending_at c.frames.contents.items) (pending_at c.take_frame-taken.new.contents.items) c.bytes-bytes.result.now c.frames.unread.bytes _ (seen c.in-Whole.frame) c.take_frame-taken.result
    c.frames.invariant.goes c.bytes-bytes.ensures c.in-Whole.ensures.read.front (sym c.is_err.ensures.value ∙ c.if-is_err.true) c.take_frame-taken.ensures.does

pub returns-then-is_whole-clause-answers : goal.returns-then-is_whole-clause-answers
returns-then-is_whole-clause-answers c =
    made _ c.args.max c.args.keeps (pending_at c.frames.contents.items) (pending_at c.take_frame-taken.new.contents.items) c.bytes-bytes.result.now c.frames.unread.bytes c.take-in-Whole.new.self.bytes (seen c.in-Whole.frame) c.in-Whole.size c.take_frame-taken.result
    c.frames.invariant.goes c.frames.invariant.shorter c.bytes-bytes.ensures c.in-Whole.ensures.read.front c.take-in-Whole.ensures.bytes (sym c.is_whole.ensures ∙ c.if-is_whole.true) c.take_frame-taken.ensures.does

pub frames-preserved-else-is_whole-4 : goal.frames-preserved-else-is_whole-4
frames-preserved-else-is_whole-4 c =
    let further = on _ c.args.max c.args.keeps (pending_at c.frames.contents.items) (pending_at c.take_frame-taken.new.contents.items) c.bytes-bytes.result.now c.frames.unread.bytes c.take-in-Whole.new.self.bytes (seen c.in-Whole.frame) c.in-Whole.size c.take_frame-taken.result
    c.frames.invariant.goes c.frames.invariant.shorter c.bytes-bytes.ensures c.in-Whole.ensures.read.front c.take-in-Whole.ensures.bytes (sym c.is_err.ensures.value ∙ c.if-is_err.false) (sym c.is_whole.ensures ∙ c.if-is_whole.false) c.take_frame-taken.ensures.does in
    record { spelled = c.take_frame-taken.ensures.spelled; goes = further.goes; shorter = further.shorter }

pub returns-in-Some-clause-answers : goal.returns-in-Some-clause-answers
returns-in-Some-clause-answers c =
    given _ c.args.max c.args.keeps c.deref.result.now c.frames.contents.items c.bytes-bytes.result.now c.frames.unread.bytes _ c.take.new.self.bytes (seen c.in-Whole.frame) c.in-Whole.size c.in-Some.more c.in-Some.command
    c.deref.ensures.value c.bytes-bytes.ensures (take_all _ _ (omega (arith, length-drop c.in-Whole.size c.bytes-bytes.result.now))) c.take.ensures.bytes c.frames.invariant.goes c.frames.invariant.shorter c.in-Whole.ensures.read.front c.in-Some.ensures.gives
