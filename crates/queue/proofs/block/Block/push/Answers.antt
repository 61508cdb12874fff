use Rattle.queue.proofs.Names.{◌≡◌, ℕ, ◌∙◌, ◌<◌, ◌∷◌, ◌++◌, [], sym, ap, refl, subst, arith, rules, length, Some, vec_len, Ready, contents, somes, BitTurned, Stretch}
use Rattle.queue.proofs.Places.{somes-append}
use Rattle.queue.proofs.Slotted.{same_bits, push_shows, live_most, contents-length}
use Rattle.queue.proofs.block.Block.push.Goals as goal

pub overflow_add-self : goal.overflow_add-self
overflow_add-self c =
    let a = live_most _ _ _ c.self.invariant.0 in let n = contents-length c.self.inside.slots.items in
    let l : vec_len c.self.inside.slots ≡ length c.self.inside.slots.items = search rules in
    let b : vec_len c.self.inside.slots < vec_len c.append.new.slots = search arith in
    omega (arith, a)

pub invariant_of-self : goal.invariant_of-self
invariant_of-self c =
    let l : vec_len c.self.inside.slots ≡ length c.self.inside.slots.items = search rules in
    let n : c.len.result ≡ length (contents c.self.inside.slots.items) = c.len.ensures ∙ l ∙ sym (contents-length c.self.inside.slots.items) in (
      push_shows _ _ _ _ _ _ c.args.message c.self.invariant.0 (subst (λ (k : ℕ). BitTurned c.self.inside.signs c.set_ready.new.self k 1) n c.set_ready.ensures) c.append.ensures.contents refl,
      same_bits _ _ _ _ c.self.invariant.1 c.append.ensures.capacity c.set_ready.ensures.places,
    )

pub returns-clause-entries : goal.returns-clause-entries
returns-clause-entries c = subst (λ (l : Stretch). somes (contents c.append.new.slots.items) ≡ l.entries ++ record { message = c.args.message; mark = Ready } ∷ []) c.self.view_is
    (ap somes c.append.ensures.contents ∙ somes-append (contents c.self.inside.slots.items) (Some (record { message = c.args.message; mark = Ready }) ∷ []))
