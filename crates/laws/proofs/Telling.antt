-- What is noted, sent and read of one kind: acks are such a kind, and nacks.
use Rattle.laws.proofs.Names.{◌≡◌, ℕ, ◌-◌, List, [], ◌∷◌, ◌++◌, Bool, true, false, cond, length, refl, sym, ap, ◌∙◌, None, ◌==◌, ◌&&◌, ◌||◌, filter_map, flat_map, list_any, AllByRecursion, cons_option, filter-append, filter_map-append, Topology, Frame, IsMethod, Broker, answer_of, confirm_notes, confirm_sends, return_of, returned_notes, returned_sends, State, Step, pieces_of, content_frames, frames_of, method_frame, body_frame, IsSpelled, receiver, sends_to, Happening, Run, sends_of, Content, Method, Event, Send, Note, Published, Confirmed}
use Rattle.std.proofs.Common.{map, Option, Some}
use Rattle.std.specs.Prelude.{if◌then◌else◌}
use Rattle.std.proofs.lemmas.List.Folds.{list_any-append}
use Rattle.model.specs.declared.events.Send.TheVariants as send
use Rattle.laws.proofs.Counts.{any_none, filter_all, filter_map_none}
use Rattle.laws.proofs.Deeds.{Publishes}
use Rattle.laws.proofs.View.{CountsNone, quiet_notes}
use Rattle.laws.proofs.Balance.{number, content, confirm, some_full, is_returned, first_note, entry_part, answer_part, noted, returned_all, entry_all, others_all}

-- ---- what is noted

abbrev pub is_published : Note → Bool
is_published (Published n c h x key o) = true
is_published note = false

abbrev pub is_confirmed : Note → Bool
is_confirmed (Confirmed n a) = true
is_confirmed note = false

-- notes of publishes alone tell something
abbrev pub TellPublishes : {K : Type 0} → (Note → Option K) → Type 0
TellPublishes told = (note : Note) → is_published note ≡ false → told note ≡ None

-- an event that counts no publish tells nothing
pub nothing_told : {t : Topology} {old new : Broker} {e : Event} {sends : List Send} {notes : List Note} {K : Type 0} (told : Note → Option K) → TellPublishes told → CountsNone t old new e sends notes → filter_map told notes ≡ []
nothing_told {notes = notes} told others a =
    filter_map_none told notes (quiet_notes (λ (note : Note). told note ≡ None) (λ n q cause. others _ refl) (λ n q. others _ refl) (λ n q d. others _ refl) a)

module _ {t : Topology} {old new : Broker} {e : Event} {sends : List Send} {notes : List Note} (p : Publishes t old new e sends notes) where
  -- a publish tells what its first note does
  pub publish_told : {K : Type 0} (told : Note → Option K) → TellPublishes told → filter_map told notes ≡ cons_option (told (first_note p)) []
  publish_told told others =
      ap (filter_map told) (noted p)
      ∙ ap (cons_option (told (first_note p))) (filter_map_none told (entry_part p ++ answer_part p) (others_all p _ (λ r. others _ refl) (λ r i. others _ refl) (others _ refl) (λ a. others _ refl)))

  -- a test that confirmations alone pass is passed where its own confirmation passes
  pub told_by_answer : (test : Note → Bool) → ((note : Note) → is_confirmed note ≡ false → test note ≡ false)
      → list_any test notes ≡ list_any test (confirm_notes (number p) (confirm p) (answer_of (some_full p)))
  told_by_answer test others =
      let n = number p in
      let returned = returned_notes n (is_returned p) in
      let confirms = confirm_notes n (confirm p) (answer_of (some_full p)) in
      ap (list_any test) (noted p)
      ∙ ap (λ b. b || list_any test (entry_part p ++ answer_part p)) (others (first_note p) refl)
      ∙ list_any-append test (entry_part p) (answer_part p)
      ∙ ap (λ b. b || list_any test (answer_part p)) (any_none test (entry_part p) (entry_all p _ (λ r. others _ refl) (λ r i. others _ refl)))
      ∙ list_any-append test returned confirms
      ∙ ap (λ b. b || list_any test confirms) (any_none test returned (returned_all _ n (is_returned p) (others _ refl)))

-- ---- what is sent

module _ {K : Type 0} (kind : Send → Option K) where
  -- those among these sends to a connection
  abbrev pub told_to : ℕ → List Send → List K
  told_to c sends = filter_map kind (sends_to c sends)

  pub told_to-append : (c : ℕ) (xs ys : List Send) → told_to c (xs ++ ys) ≡ told_to c xs ++ told_to c ys
  told_to-append c xs ys = ap (filter_map kind) (filter-append (λ s. receiver s == c) xs ys) ∙ filter_map-append kind (sends_to c xs) (sends_to c ys)

  pub told_to_none : (c : ℕ) (sends : List Send) → AllByRecursion (λ (s : Send). kind s ≡ None) sends → told_to c sends ≡ []
  told_to_none c sends a = filter_map_none kind (sends_to c sends) (filter_all (λ (s : Send). kind s ≡ None) (λ s. receiver s == c) sends a)

  -- a publish tells what its confirmation does, where its return is none
  pub publish_sends : {t : Topology} {old new : Broker} {e : Event} {sends : List Send} {notes : List Note} (p : Publishes t old new e sends notes) (c : ℕ) → kind (return_of p.c p.h p.publish (content p)) ≡ None
      → told_to c sends ≡ told_to c (confirm_sends p.c p.h (confirm p) (answer_of (some_full p)))
  publish_sends p c none =
      let back = returned_sends p.c p.h p.publish (content p) (is_returned p) in
      let answers = confirm_sends p.c p.h (confirm p) (answer_of (some_full p)) in
      ap (told_to c) p.is.sent
      ∙ told_to-append c back answers
      ∙ ap (λ (xs : List K). xs ++ told_to c answers) (told_to_none c back (silent (is_returned p)))
    where
      silent : (b : Bool) → AllByRecursion (λ (s : Send). kind s ≡ None) (returned_sends p.c p.h p.publish (content p) b)
      silent true = (none, tt)
      silent false = tt

  -- the one confirmation, to the connection of the publish where it tells something
  pub one_told : (mine answered : Bool) (s : Send) (k : K) → kind s ≡ (if answered then Some k else None)
      → filter_map kind (cond mine (s ∷ []) []) ≡ cons_option (if mine && answered then Some k else None) []
  one_told true answered s k e = ap (λ (o : Option K). cons_option o []) e
  one_told false answered s k e = refl

  -- where the sends of each event tell what is due of it, those of all of them do
  pub told_over : (c : ℕ) (due : Happening → List K) (hs : List Happening) → AllByRecursion (λ (h : Happening). told_to c h.sends ≡ due h) hs → told_to c (sends_of hs) ≡ flat_map due hs
  told_over c due [] each = refl
  told_over c due (h ∷ hs) each =
      told_to-append c h.sends (sends_of hs)
      ∙ ap (λ (xs : List K). told_to c h.sends ++ xs) (told_over c due hs each.1)
      ∙ ap (λ (xs : List K). xs ++ flat_map due hs) each.0

-- what holds of each step holds of each event of a run
pub each_of_run : (P : Happening → Type 0) → ((h : Happening) → Step h.config h.before h.event h.sends h.notes h.after → P h) → (hs : List Happening) (old new : State) → Run old hs new → AllByRecursion P hs
each_of_run P step [] old new r = tt
each_of_run P step (h ∷ hs) old new (e, s, r) = (step h s, each_of_run P step hs h.after new r)

-- ---- what is read

-- what a client reads in a frame is what the send told whose frame it is, and the frames of a content tell nothing
pub record IsRead {K : Type 0} (read : Frame → Option K) (kind : Send → Option K) : Type 0 where
  pub greeting : (c : ℕ) → kind (send.Greeting c) ≡ None
  pub method : (c h : ℕ) (m : Method) (content : Option Content) → IsMethod m → read (method_frame h m) ≡ kind (send.Command c h m content)
  pub content : (f : Frame) → (f.kind == 1) ≡ false → read f ≡ None

module _ {K : Type 0} (read : Frame → Option K) (kind : Send → Option K) (is : IsRead read kind) where
  content_read : (max h : ℕ) (o : Option Content) → filter_map read (content_frames max h o) ≡ []
  content_read max h None = refl
  content_read max h (Some c) = filter_map_none read (content_frames max h (Some c)) (is.content _ refl, bodies (pieces_of (max - 8) (length c.body) c.body))
    where
      bodies : (ps : List (List ℕ)) → AllByRecursion (λ (f : Frame). read f ≡ None) (map (body_frame h) ps)
      bodies [] = tt
      bodies (piece ∷ ps) = (is.content _ refl, bodies ps)

  send_read : (max : ℕ) (s : Send) → IsSpelled max s → filter_map read (frames_of max s) ≡ cons_option (kind s) []
  send_read max (send.Greeting c) fits = ap (λ (o : Option K). cons_option o []) (sym (is.greeting c))
  send_read max (send.Command c h m content) fits =
      ap (λ (o : Option K). cons_option o (filter_map read (content_frames max h content))) (is.method c h m content fits.spelled.0)
      ∙ ap (λ (xs : List K). cons_option (kind (send.Command c h m content)) xs) (content_read max h content)

  pub sends_read : (max : ℕ) (sends : List Send) → AllByRecursion (IsSpelled max) sends → filter_map read (flat_map (frames_of max) sends) ≡ filter_map kind sends
  sends_read max [] fits = refl
  sends_read max (s ∷ sends) fits =
      filter_map-append read (frames_of max s) (flat_map (frames_of max) sends)
      ∙ ap (λ (xs : List K). xs ++ filter_map read (flat_map (frames_of max) sends)) (send_read max s fits.0)
      ∙ cons_append (kind s) (filter_map read (flat_map (frames_of max) sends))
      ∙ ap (λ (xs : List K). cons_option (kind s) xs) (sends_read max sends fits.1)
    where
      cons_append : (o : Option K) (xs : List K) → cons_option o [] ++ xs ≡ cons_option o xs
      cons_append None xs = refl
      cons_append (Some x) xs = refl
