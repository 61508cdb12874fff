-- A publish against which nothing stands is noted, and in confirm mode confirmed.
use Rattle.laws.proofs.Names.{◌≡◌, ℕ, List, [], ◌∷◌, ◌++◌, Bool, length, refl, sym, ap, subst, ◌∙◌, None, inl, ◌==◌, ◌&&◌, eq-eqb, IsIn, with_pair, IsPublish, channel_or_new, next_of, reply, answer_of, confirm_method, confirm_notes, confirm_sends, content_or_none, is_none, is_some_full, returned_notes, returned_sends, Step, Happening, IsConfirmedIf, PublishesAreTaken, Send, BasicPublish, Note, Published, Confirmed}
use Rattle.std.proofs.Common.{◌+◌, Option, Some}
use Rattle.std.specs.Prelude.{if◌then◌else◌}
use Rattle.model.specs.Step.{entry_notes}
use Rattle.model.specs.declared.notes.Way.TheVariants as way
use Rattle.laws.proofs.Accepted.{is_open_for}
use Rattle.laws.proofs.Counts.{in_back}
use Rattle.laws.proofs.Unrefused.{is_performed}

-- where a publish has a confirm number, its answer is noted and sent under that
is_confirmed : (h : Happening) (c k n : ℕ) (o : Option ℕ) (full : Bool) (first : List Note) (back : List Send)
    → h.notes ≡ first ++ confirm_notes n o (answer_of full) → h.sends ≡ back ++ confirm_sends c k o (answer_of full) → IsConfirmedIf h n c k o
is_confirmed h c k n None full first back noted sent = tt
is_confirmed h c k n (Some m) full first back noted sent = record {
  answer = answer_of full;
  noted = subst (IsIn (Confirmed n (answer_of full))) (sym noted) (in_back (Confirmed n (answer_of full)) first (Confirmed n (answer_of full) ∷ []) (inl refl));
  sent = subst (IsIn (reply c k (confirm_method (answer_of full) m))) (sym sent) (in_back (reply c k (confirm_method (answer_of full) m)) back (reply c k (confirm_method (answer_of full) m) ∷ []) (inl refl));
}

-- a function of two numbers at the ones for which it was changed
at_pair : {A : Type 0} (f : ℕ → ℕ → A) (c k : ℕ) (a : A) → with_pair f c k a c k ≡ a
at_pair f c k a = ap (λ (b : Bool). if b && (k == k) then a else f c k) (eq-eqb c c refl) ∙ ap (λ (b : Bool). if b then a else f c k) (eq-eqb k k refl)

pub step_takes : (h : Happening) → Step h.config h.before h.event h.sends h.notes h.after → PublishesAreTaken h
step_takes h s c k m u =
    let t = h.config.topology in
    let old = h.before.broker in
    let ch = channel_or_new (old.channel c k) in
    let n = old.published + 1 in
    let content = content_or_none u.content in
    let confirm = next_of ch.confirm in
    let p : IsPublish t old c k ch m content h.sends h.notes h.after.broker = is_performed h s c k (BasicPublish m) u in
    let goes_back = m.mandatory && is_none p.targets in
    let first = Published n c k m.exchange m.routing_key confirm ∷ (entry_notes t old.queue (length content.body) n way.Publish p.targets ++ returned_notes n goes_back) in
    record {
      channel = ch;
      open_there = is_open_for t old u.connection k m (old.channel c k) u.accepted;
      noted = subst (IsIn (Published n c k m.exchange m.routing_key confirm)) (sym p.noted) (inl refl);
      confirmed = is_confirmed h c k n confirm (is_some_full t old.queue content p.targets) first (returned_sends c k m content goes_back) p.noted p.sent;
      counted = p.left.counted;
      used = p.left.channels c k ∙ at_pair old.channel c k (Some (record ch { confirm = confirm }));
    }
