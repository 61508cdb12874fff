use Rattle.assembly.proofs.Imports.{◌≡◌, ◌∙◌, sym, subst, rules, length, false, ℕ, Ok, SaysSize, SaysHeader, header_seen, is_too_large}
use Rattle.assembly.proofs.Limits.{same_size}
use Rattle.assembly.proofs.publishes.content_of.Goals as goal

pub returns : goal.returns
returns c =
    let payload = c.args.frames.now.header.now in
    let h = header_seen c.in-Ok-read_header.header in
    let size : c.in-Ok.size ≡ length c.args.frames.now.body.now = search rules in
    let declared : h.size ≡ length c.args.frames.now.body.now = sym (same_size payload c.in-Ok.size h c.in-Ok.ensures c.in-Ok-read_header.ensures.read) ∙ size in
    record {
      size = subst (λ (n : ℕ). SaysSize payload (Ok n)) size c.in-Ok.ensures;
      says = subst (λ (n : ℕ). SaysHeader payload (Ok (record { size = n; properties = h.properties }))) declared c.in-Ok-read_header.ensures.read;
      same = c.in-Ok-from_slice.ensures.ok;
      some = search rules;
      small = subst (λ (n : ℕ). is_too_large payload n ≡ false) size (sym c.is_too_large.ensures ∙ c.if-is_too_large.false);
    }
