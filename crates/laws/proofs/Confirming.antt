-- What the promises about publishes, nacks and entries refuse.
use Rattle.laws.proofs.Names.{◌≡◌, ℕ, List, [], ◌∷◌, ◌++◌, Bool, true, false, refl, sym, ap, subst, ◌∙◌, lit≤, arith, inl, inr, codes, AllByRecursion, false≢true, same_Some, IsIn, Channel, freed_now, number_of, IsFrame, is_fresh, method_frame, reply, confirm_method, next_of, IsReading, Nack, nacks_in, HasNacks, IsConfirmedIf, IsConfirmedUnder, TakesPublish, PublishesAreTaken, EnterFresh, MarksWhatWasGiven, Entry, ConfirmSelectOk, BasicNack, Send, Note, Published, Entered, Confirmed, no_content, select_ok, first_entry, with_entries, event_of_notes}
use Rattle.std.proofs.Common.{drop, map, Option, Some}
use Rattle.model.specs.declared.notes.Way.TheVariants.{Publish}
use Rattle.model.specs.declared.notes.Answer.TheVariants.{Ack}
use Rattle.laws.specs.Confirming.{to_audit, noted_under, publishing, first_nack, multiple_nack, first_nacked, ConfirmsRefuse}
use Rattle.laws.proofs.Reading.{reading_apart}

-- ---- publishes

taken : (sends : List Send) (notes : List Note) → PublishesAreTaken (publishing sends notes) → TakesPublish (publishing sends notes) 1 1 to_audit
taken sends notes all = all 1 1 to_audit (record { content = Some no_content; event = refl; runs = refl; connection = record { channel_max = 255; is_paused = false }; there = refl; accepted = refl })

-- the next confirm number is 1
next_is : (sends : List Send) (notes : List Note) (t : TakesPublish (publishing sends notes) 1 1 to_audit) → next_of t.channel.confirm ≡ Some 1
next_is sends notes t = ap (λ (ch : Channel). next_of ch.confirm) (sym (same_Some _ t.channel t.open_there))

confirmed : (sends : List Send) (notes : List Note) → PublishesAreTaken (publishing sends notes) → IsConfirmedUnder (publishing sends notes) 3 1 1 1
confirmed sends notes all = let t = taken sends notes all in subst (IsConfirmedIf (publishing sends notes) 3 1 1) (next_is sends notes t) t.confirmed

none_noted : PublishesAreTaken (publishing [] []) → ⊥
none_noted all = (taken [] [] all).noted

not_confirmed : PublishesAreTaken (publishing [] (noted_under 1 ∷ [])) → ⊥
not_confirmed all = elim (confirmed [] (noted_under 1 ∷ []) all).noted [ inl is ↦ cc | inr i ↦ i ]

not_sent : PublishesAreTaken (publishing [] (noted_under 1 ∷ Confirmed 3 Ack ∷ [])) → ⊥
not_sent all = (confirmed [] (noted_under 1 ∷ Confirmed 3 Ack ∷ []) all).sent

one_is_not_two : ◌≡◌ {A = ℕ} 1 2 → ⊥
one_is_not_two e = omega (arith, e)

-- the confirm number that a note names
abbrev confirm_in : Note → ℕ
confirm_in (Published n c h x key (Some m)) = m
confirm_in note = 0

passed_over : PublishesAreTaken (publishing (reply 1 1 (confirm_method Ack 2) ∷ []) (noted_under 2 ∷ Confirmed 3 Ack ∷ [])) → ⊥
passed_over all = by (subst (λ (o : Option ℕ). IsIn (Published 3 1 1 [] (codes "audit") o) (noted_under 2 ∷ Confirmed 3 Ack ∷ [])) (next_is _ _ t) t.noted)
  where
    t : TakesPublish (publishing (reply 1 1 (confirm_method Ack 2) ∷ []) (noted_under 2 ∷ Confirmed 3 Ack ∷ [])) 1 1 to_audit
    t = taken _ _ all

    by : IsIn (noted_under 1) (noted_under 2 ∷ Confirmed 3 Ack ∷ []) → ⊥
    by (inl e) = one_is_not_two (ap confirm_in e)
    by (inr (inl e)) = cc
    by (inr (inr i)) = i

-- ---- nacks

is_select_ok : IsFrame 131072 (method_frame 1 ConfirmSelectOk)
is_select_ok = record { kind = inl refl; channel = lit≤ tt; size = lit≤ tt }

is_nack : (multiple : Bool) → IsFrame 131072 (method_frame 1 (BasicNack (record { delivery_tag = 1; multiple = multiple; requeue = false })))
is_nack multiple = record { kind = inl refl; channel = lit≤ tt; size = lit≤ tt }

select_ok_reading : IsReading select_ok (method_frame 1 ConfirmSelectOk ∷ [])
select_ok_reading = inl (record { parts = refl; each = (is_select_ok, tt) })

first_reading : IsReading (select_ok ++ first_nack) (method_frame 1 ConfirmSelectOk ∷ method_frame 1 (BasicNack (record { delivery_tag = 1; multiple = false; requeue = false })) ∷ [])
first_reading = inl (record { parts = refl; each = (is_select_ok, (is_nack false, tt)) })

multiple_reading : IsReading (select_ok ++ multiple_nack) (method_frame 1 ConfirmSelectOk ∷ method_frame 1 (BasicNack (record { delivery_tag = 1; multiple = true; requeue = false })) ∷ [])
multiple_reading = inl (record { parts = refl; each = (is_select_ok, (is_nack true, tt)) })

no_nack_there : HasNacks (first_nacked ∷ []) select_ok → ⊥
no_nack_there has =
    let e : [] ≡ first_nacked ∷ [] = ap nacks_in (reading_apart select_ok (method_frame 1 ConfirmSelectOk ∷ []) has.frames select_ok_reading has.reading) ∙ has.nacks in
    cc

unearned : HasNacks [] (select_ok ++ first_nack) → ⊥
unearned has =
    let e : first_nacked ∷ [] ≡ [] = ap nacks_in (reading_apart (select_ok ++ first_nack) _ has.frames first_reading has.reading) ∙ has.nacks in
    cc

more_nacked : HasNacks (first_nacked ∷ []) (select_ok ++ multiple_nack) → ⊥
more_nacked has =
    let e : record { channel = 1; number = 1; multiple = true } ∷ [] ≡ first_nacked ∷ [] = ap nacks_in (reading_apart (select_ok ++ multiple_nack) _ has.frames multiple_reading has.reading) ∙ has.nacks in
    false≢true (sym (ap is_multiple e))
  where
    is_multiple : List Nack → Bool
    is_multiple [] = false
    is_multiple (n ∷ ns) = n.multiple

-- ---- entries

marked : EnterFresh (event_of_notes [] (with_entries []) (Entered 1 (codes "audit") Publish ∷ []) (with_entries (freed_now first_entry ∷ []))) → ⊥
marked enter = let ends = enter (codes "audit") in by ends.stayed ends.came ends.all ends.numbered ends.fresh
  where
    first_is_fresh : List Entry → Bool
    first_is_fresh [] = true
    first_is_fresh (e ∷ es) = is_fresh e

    by : (stayed came : List Entry) → freed_now first_entry ∷ [] ≡ stayed ++ came → map number_of came ≡ 1 ∷ [] → AllByRecursion (λ (e : Entry). is_fresh e ≡ true) came → ⊥
    by stayed [] all numbered fresh = cc
    by [] (e ∷ es) all numbered fresh = false≢true (ap first_is_fresh all ∙ fresh.0)
    by (s ∷ []) (e ∷ es) all numbered fresh = let none : [] ≡ e ∷ es = ap (drop 1) all in cc
    by (s ∷ r ∷ rest) (e ∷ es) all numbered fresh = let none : [] ≡ r ∷ (rest ++ e ∷ es) = ap (drop 1) all in cc

not_given_out : MarksWhatWasGiven (event_of_notes [] (with_entries (first_entry ∷ [])) [] (with_entries (freed_now first_entry ∷ []))) → ⊥
not_given_out marks = let was = marks (codes "audit") (freed_now first_entry) (inl refl) refl in by was.entry was.stood was.given
  where
    by : (e : Entry) → IsIn e (first_entry ∷ []) → is_fresh e ≡ false → ⊥
    by e (inl is) given = false≢true (sym given ∙ ap is_fresh is)
    by e (inr i) given = i

pub confirms_refuse : ConfirmsRefuse
confirms_refuse = record {
  dropped = none_noted;
  never_confirmed = not_confirmed;
  ack_not_sent = not_sent;
  number_passed_over = passed_over;
  output_without_nack = no_nack_there;
  unearned_nack = unearned;
  nack_of_more = more_nacked;
  entered_marked = marked;
  marked_where_it_waits = not_given_out;
}
