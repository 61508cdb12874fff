use Rattle.assembly.proofs.Imports.{◌≡◌, ◌++◌, ℕ, List, Option, Result, Ok, Err, sym, subst, OnOk, OnErr, Stream, stream, IsBrokenBy}
use Rattle.assembly.specs.Unread.{Waiting}
use Rattle.assembly.proofs.Breaks.{broken_more}
use Rattle.assembly.proofs.streams.Stream.feed.Goals as goal

-- a stream that broke stays broken, whether more was put in or refused
put_keeps : {A E : Type 0} (fault : Option ℕ) (of : List ℕ → Stream) (r : Result A E) (old new : Waiting) (more : List ℕ) → OnOk r (new.bytes ≡ old.bytes ++ more) → OnErr r (new ≡ old) → IsBrokenBy fault (of old.bytes)
    → IsBrokenBy fault (of (old.bytes ++ more)) → IsBrokenBy fault (of new.bytes)
put_keeps fault of (Ok a) old new more ok err before after = subst (λ (z : List ℕ). IsBrokenBy fault (of z)) (sym ok) after
put_keeps fault of (Err e) old new more ok err before after = subst (λ (w : Waiting). IsBrokenBy fault (of w.bytes)) (sym err) before

pub invariant_of-self : goal.invariant_of-self
invariant_of-self c =
    let i = c.self.inside in
    let of : List ℕ → Stream = λ bytes. stream i.is_new i.max i.keeps i.contents.items bytes in
    let more = broken_more i.fault (of i.unread.bytes) c.args.bytes.now c.self.invariant.2 in
    (c.self.invariant.0, c.self.invariant.1, put_keeps i.fault of c.put.result i.unread c.put.new.self c.args.bytes.now c.put.ensures.ok c.put.ensures.err c.self.invariant.2 more)
