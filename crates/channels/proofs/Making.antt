-- Consumers as the channel keeps them, and as the model has them.
use Rattle.channels.proofs.Imports.{◌≡◌, inl, inr, ℕ, ◌+◌, ◌<◌, ◌≤◌, List, [], ◌∷◌, ◌++◌, length, map, not, Bool, true, false, Option, Some, None, refl, sym, ap, ◌∙◌, arith, ◌⊎◌, slice_index_or, ◌||◌, list_any, eqb-true, le-leb, lt-leb, map-append, length-map, Text, Of_connection, or_else, greatest, refusal_of_consumer, is_named, server_name, IsNextName, AreNamesSpent, Given, with_consumer_added, CanMakeConsumer, JudgesNamed, JudgesUnnamed, AddsConsumer, RefusesUnnamed, ConsumesUnnamed, IsMadeUnder, Open, consumer_in, open_in, places_of, IsConsumerMade, JudgesConsumer, MakesConsumer, Consumer}
use Rattle.std.proofs.Common.{filter, Result, Ok, Err}
use Rattle.std.specs.Prelude.{nat_le, ◌==◌, if◌then◌else◌}
use Rattle.std.proofs.lemmas.Bool.{eq-eqb}
use Rattle.model.specs.Broker as seen
use Rattle.model.specs.Consuming.{without_consumer, is_tagged, is_in_use, server_tag, next_free, tag_for, name_after, is_tag_taken, has_no_tag_left, consumer_of}
use Rattle.model.specs.Consuming as said
use Rattle.model.specs.Step.{Refusal as Stands}
use Rattle.model.specs.declared.methods.Consume.{Consume}
use Rattle.laws.specs.Consumers.{NextTagsAreFound}
use Rattle.channels.specs.declared.consumers.ConsumerRefusal.{ConsumerRefusal}
use Rattle.channels.specs.declared.consumers.ConsumerRefusal.TheVariants.{InUse, TooMany, Spent}
use Rattle.channels.specs.declared.consumers.ConsumeError.{ConsumeError}
use Rattle.channels.specs.declared.consumers.ConsumeError.TheVariants.{Refused, Memory}
use Rattle.channels.specs.declared.names.Name.{Name}
use Rattle.channels.specs.Deliveries.{NamesUnnamed}
use Rattle.std.specs.Result.{result_err}
use Rattle.channels.proofs.Mapped.{filter-map, list_any-map}

-- ---- consumers, where queues have names

-- a tag is in use there as it is here
pub any_tagged : (names : List Text) (tag : Text) (cs : List Consumer) → is_in_use tag (map (consumer_in names) cs) ≡ list_any (is_named tag) cs
any_tagged names tag cs = list_any-map (consumer_in names) (is_tagged tag) cs

pub named_out : (names : List Text) (tag : Text) (old : Open) (cs : List Consumer) (consumer_room : ℕ) → cs ≡ filter (λ c. not (is_named tag c)) old.given.consumers
    → open_in names (record old { given = record old.given { consumers = cs; consumer_room = consumer_room } }) ≡ without_consumer (open_in names old) tag
named_out names tag old cs consumer_room e =
    ap (λ (ks : List seen.Consumer). record (open_in names old) { consumers = ks }) (ap (map (consumer_in names)) e ∙ sym (filter-map (consumer_in names) (λ k. not (is_tagged tag k)) old.given.consumers))

-- ---- the reason against one more consumer

abbrev decided : Bool → Bool → Bool → Option Stands
decided taken many wanting =
    or_else (if taken then Some (Of_connection 530) else None) (or_else (if many then Some (Of_connection 506) else None) (if wanting then Some (Of_connection 541) else None))

decides : (ch : seen.Channel) (m : Consume) (taken many wanting : Bool) → is_tag_taken ch m.consumer_tag ≡ taken → nat_le 256 (length ch.consumers) ≡ many
    → ((ch.next_number == greatest) || has_no_tag_left ch m.consumer_tag) ≡ wanting → refusal_of_consumer ch m ≡ decided taken many wanting
decides ch m taken many wanting a b c =
    ap (λ (x : Bool). decided x (nat_le 256 (length ch.consumers)) ((ch.next_number == greatest) || has_no_tag_left ch m.consumer_tag)) a
    ∙ ap (λ (x : Bool). decided taken x ((ch.next_number == greatest) || has_no_tag_left ch m.consumer_tag)) b
    ∙ ap (λ (x : Bool). decided taken many x) c

many_in : (names : List Text) (cs : List Consumer) → 256 ≤ length cs → nat_le 256 (length (map (consumer_in names) cs)) ≡ true
many_in names cs h = le-leb 256 (length (map (consumer_in names) cs)) (let l = length-map cs (consumer_in names) in omega (arith, h, l))

few_in : (names : List Text) (cs : List Consumer) → length cs < 256 → nat_le 256 (length (map (consumer_in names) cs)) ≡ false
few_in names cs h = lt-leb 256 (length (map (consumer_in names) cs)) (let l = length-map cs (consumer_in names) in omega (arith, h, l))

below : (n m : ℕ) → n < m → (n == m) ≡ false
below n m h = go (n == m) refl
  where
    go : (b : Bool) → (n == m) ≡ b → (n == m) ≡ false
    go true e = let is = eqb-true n m e in absurd (omega (arith, h, is))
    go false e = e

or_true : (b : Bool) → (b || true) ≡ true
or_true true = refl
or_true false = refl

or_spent : (n : ℕ) (b : Bool) → n ≡ greatest → ((n == greatest) || b) ≡ true
or_spent n b e = ap (λ (x : Bool). x || b) (eq-eqb n greatest e)

or_left : (n : ℕ) (b : Bool) → n < greatest → b ≡ false → ((n == greatest) || b) ≡ false
or_left n b h e = ap (λ (x : Bool). x || b) (below n greatest h) ∙ e

-- ---- the channel with one consumer more

made_of : (old : Open) (given : Given) (queue : ℕ) (m : Consume) (tag : Text) (name consumer_room : ℕ) → given ≡ record (with_consumer_added old.given tag queue m.no_ack consumer_room) { next_name = name }
    → (names : List Text) → tag ≡ tag_for (open_in names old) m.consumer_tag → name ≡ name_after (open_in names old) m.consumer_tag
    → slice_index_or names queue [] ≡ m.queue → open_in names (record old { given = given }) ≡ said.with_consumer (open_in names old) m
made_of old given queue m tag name consumer_room e names tagged after there =
    ap (λ (g : Given). open_in names (record old { given = g })) e
    ∙ ap (λ (ks : List seen.Consumer). record (open_in names old) { next_number = old.given.next_number + 1; next_name = name; consumers = ks }) (map-append (consumer_in names) old.given.consumers (one ∷ []))
    ∙ ap (λ (q : Text). with_one (record { number = old.given.next_number; tag = tag; queue = q; no_ack = m.no_ack; limit = old.given.each_limit }) name) there
    ∙ ap (λ (t : Text). with_one (record { number = old.given.next_number; tag = t; queue = m.queue; no_ack = m.no_ack; limit = old.given.each_limit }) name) tagged
    ∙ ap (λ (n : ℕ). with_one (consumer_of (open_in names old) m) n) after
  where
    one : Consumer
    one = record { number = old.given.next_number; tag = tag; queue = queue; no_ack = m.no_ack; limit = old.given.each_limit }

    with_one : seen.Consumer → ℕ → seen.Channel
    with_one k n = record (open_in names old) { next_number = old.given.next_number + 1; next_name = n; consumers = map (consumer_in names) old.given.consumers ++ k ∷ [] }

places_more : (cs : List Consumer) (c : Consumer) → places_of (cs ++ c ∷ []) ≡ places_of cs ++ c.queue ∷ []
places_more cs c = map-append (λ (x : Consumer). x.queue) cs (c ∷ [])

-- ---- a tag of the client's

given_tag : (ch : seen.Channel) (tag : Text) → (length tag ≡ 0 → ⊥) → tag ≡ tag_for ch tag
given_tag ch [] h = absurd (h refl)
given_tag ch (b ∷ bs) h = refl

given_name : (ch : seen.Channel) (tag : Text) → (length tag ≡ 0 → ⊥) → ch.next_name ≡ name_after ch tag
given_name ch [] h = absurd (h refl)
given_name ch (b ∷ bs) h = refl

given_taken : (ch : seen.Channel) (tag : Text) → (length tag ≡ 0 → ⊥) → is_tag_taken ch tag ≡ is_in_use tag ch.consumers
given_taken ch [] h = absurd (h refl)
given_taken ch (b ∷ bs) h = refl

given_wanting : (ch : seen.Channel) (tag : Text) → (length tag ≡ 0 → ⊥) → has_no_tag_left ch tag ≡ false
given_wanting ch [] h = absurd (h refl)
given_wanting ch (b ∷ bs) h = refl

-- there is no reason against it
pub named_free : (old : Open) (m : Consume) → (length m.consumer_tag ≡ 0 → ⊥) → CanMakeConsumer old.given m.consumer_tag → (names : List Text) → refusal_of_consumer (open_in names old) m ≡ None
named_free old m h may names =
    decides (open_in names old) m false false false
    (given_taken (open_in names old) m.consumer_tag h ∙ any_tagged names m.consumer_tag old.given.consumers ∙ may.free)
    (few_in names old.given.consumers may.few)
    (or_left old.given.next_number (has_no_tag_left (open_in names old) m.consumer_tag) may.left (given_wanting (open_in names old) m.consumer_tag h))

pub named_made : (old : Open) (given : Given) (queue : ℕ) (m : Consume) → (length m.consumer_tag ≡ 0 → ⊥)
    → CanMakeConsumer old.given m.consumer_tag → AddsConsumer old.given m.consumer_tag queue m.no_ack given → IsConsumerMade old queue m m.consumer_tag (record old { given = given })
named_made old given queue m h may (made, consumer_room) = record {
  free = named_free old m h may;
  named = λ names. given_tag (open_in names old) m.consumer_tag h;
  made = λ names there. made_of old given queue m m.consumer_tag old.given.next_name given.consumer_room made names (given_tag (open_in names old) m.consumer_tag h) (given_name (open_in names old) m.consumer_tag h) there;
  outstanding = ap (λ (g : Given). g.outstanding) made;
  places = ap (λ (g : Given). places_of g.consumers) made ∙ places_more old.given.consumers _;
  number = ap (λ (g : Given). g.next_number) made;
  listed = ap (λ (g : Given). g.consumers) made;
}

pub named_refused : (old : Open) (m : Consume) (r : ConsumerRefusal) → (length m.consumer_tag ≡ 0 → ⊥) → JudgesNamed old.given m.consumer_tag (Some r) → JudgesConsumer old m (Some r)
named_refused old m InUse h used = λ names.
    decides (open_in names old) m true _ _ (given_taken (open_in names old) m.consumer_tag h ∙ any_tagged names m.consumer_tag old.given.consumers ∙ used) refl refl
named_refused old m TooMany h (free, many) = λ names.
    decides (open_in names old) m false true _ (given_taken (open_in names old) m.consumer_tag h ∙ any_tagged names m.consumer_tag old.given.consumers ∙ free) (many_in names old.given.consumers many) refl
named_refused old m Spent h (free, (few, spent)) = λ names.
    decides (open_in names old) m false false true (given_taken (open_in names old) m.consumer_tag h ∙ any_tagged names m.consumer_tag old.given.consumers ∙ free) (few_in names old.given.consumers few)
    (or_spent old.given.next_number (has_no_tag_left (open_in names old) m.consumer_tag) spent)

pub named_judged : (old : Open) (m : Consume) (o : Option ConsumerRefusal) → (length m.consumer_tag ≡ 0 → ⊥) → JudgesNamed old.given m.consumer_tag o → JudgesConsumer old m o
named_judged old m None h may = named_free old m h may
named_judged old m (Some r) h why = named_refused old m r h why

-- ---- a tag of the server's

no_tag : (tag : Text) → length tag ≡ 0 → tag ≡ []
no_tag [] h = refl
no_tag (b ∷ bs) h = absurd (omega (arith, h))

no_tag_for : (ch : seen.Channel) (tag : Text) → tag ≡ [] → tag_for ch tag ≡ server_tag (next_free ch)
no_tag_for ch tag e = ap (tag_for ch) e

no_tag_name : (ch : seen.Channel) (tag : Text) → tag ≡ [] → name_after ch tag ≡ next_free ch + 1
no_tag_name ch tag e = ap (name_after ch) e

no_tag_taken : (ch : seen.Channel) (tag : Text) → tag ≡ [] → is_tag_taken ch tag ≡ false
no_tag_taken ch tag e = ap (is_tag_taken ch) e

no_tag_wanting : (ch : seen.Channel) (tag : Text) → tag ≡ [] → has_no_tag_left ch tag ≡ nat_le greatest (next_free ch)
no_tag_wanting ch tag e = ap (has_no_tag_left ch) e

-- the next name is that of the model's next tag
next_is : NextTagsAreFound → (names : List Text) (old : Open) (n : ℕ) → IsNextName old.given.consumers old.given.next_name n → next_free (open_in names old) ≡ n
next_is laws names old n next = laws.only (open_in names old) n next.least next.left (any_tagged names (server_name n) old.given.consumers ∙ next.free)
    (λ k le lt. any_tagged names (server_name k) old.given.consumers ∙ next.before k le lt)

none_is : NextTagsAreFound → (names : List Text) (old : Open) → AreNamesSpent old.given.consumers old.given.next_name → next_free (open_in names old) ≡ greatest
none_is laws names old spent = laws.none_left (open_in names old) spent.within (λ k le lt. any_tagged names (server_name k) old.given.consumers ∙ spent.used k le lt)

unnamed_free : NextTagsAreFound → (old : Open) (m : Consume) (n : ℕ) → m.consumer_tag ≡ [] → length old.given.consumers < 256 → old.given.next_number < greatest → IsNextName old.given.consumers old.given.next_name n
    → (names : List Text) → refusal_of_consumer (open_in names old) m ≡ None
unnamed_free laws old m n none few left next names =
    decides (open_in names old) m false false false
    (no_tag_taken (open_in names old) m.consumer_tag none)
    (few_in names old.given.consumers few)
    (or_left old.given.next_number (has_no_tag_left (open_in names old) m.consumer_tag) left
    (no_tag_wanting (open_in names old) m.consumer_tag none ∙ ap (nat_le greatest) (next_is laws names old n next) ∙ lt-leb greatest n next.left))

unnamed_made : NextTagsAreFound → (old : Open) (given : Given) (queue : ℕ) (m : Consume) (tag : Text) (n : ℕ) → m.consumer_tag ≡ []
    → length old.given.consumers < 256 → old.given.next_number < greatest → IsMadeUnder old.given queue m.no_ack tag given n → IsConsumerMade old queue m tag (record old { given = given })
unnamed_made laws old given queue m tag n none few left is = record {
  free = unnamed_free laws old m n none few left is.next;
  named = λ names. tagged names;
  made = λ names there. made_of old given queue m tag (n + 1) given.consumer_room (is.made ∙ ap (λ (t : Text). record (with_consumer_added old.given t queue m.no_ack given.consumer_room) { next_name = n + 1 }) (sym is.named)) names (tagged names)
      (sym (no_tag_name (open_in names old) m.consumer_tag none ∙ ap (λ (k : ℕ). k + 1) (next_is laws names old n is.next))) there;
  outstanding = ap (λ (g : Given). g.outstanding) is.made;
  places = ap (λ (g : Given). places_of g.consumers) is.made ∙ places_more old.given.consumers _;
  number = ap (λ (g : Given). g.next_number) is.made;
  listed = ap (λ (g : Given). g.consumers) is.made
      ∙ ap (λ (t : Text). old.given.consumers ++ record { number = old.given.next_number; tag = t; queue = queue; no_ack = m.no_ack; limit = old.given.each_limit } ∷ []) (sym is.named);
}
  where
    tagged : (names : List Text) → tag ≡ tag_for (open_in names old) m.consumer_tag
    tagged names = is.named ∙ sym (no_tag_for (open_in names old) m.consumer_tag none ∙ ap server_tag (next_is laws names old n is.next))

pub unnamed_is_made : NextTagsAreFound → (old : Open) (given : Given) (queue : ℕ) (m : Consume) (tag : Text) → length m.consumer_tag ≡ 0
    → ConsumesUnnamed old.given queue m.no_ack (Ok tag) given → IsConsumerMade old queue m tag (record old { given = given })
unnamed_is_made laws old given queue m tag h (few, (left, (consumer_room, (n, is)))) = unnamed_made laws old given queue m tag n (no_tag m.consumer_tag h) few left is

pub unnamed_refused : NextTagsAreFound → (old : Open) (m : Consume) (r : ConsumerRefusal) → length m.consumer_tag ≡ 0 → RefusesUnnamed old.given r → JudgesConsumer old m (Some r)
unnamed_refused laws old m InUse h why = absurd why
unnamed_refused laws old m TooMany h many = λ names. let none = no_tag m.consumer_tag h in
    decides (open_in names old) m false true _ (no_tag_taken (open_in names old) m.consumer_tag none) (many_in names old.given.consumers many) refl
unnamed_refused laws old m Spent h (few, spent) = λ names. let none = no_tag m.consumer_tag h in
    decides (open_in names old) m false false true (no_tag_taken (open_in names old) m.consumer_tag none) (few_in names old.given.consumers few) (wanting names none spent)
  where
    wanting : (names : List Text) → m.consumer_tag ≡ [] → (old.given.next_number ≡ greatest) ⊎ AreNamesSpent old.given.consumers old.given.next_name
        → ((old.given.next_number == greatest) || has_no_tag_left (open_in names old) m.consumer_tag) ≡ true
    wanting names none (inl e) = or_spent old.given.next_number (has_no_tag_left (open_in names old) m.consumer_tag) e
    wanting names none (inr s) =
        ap (λ (b : Bool). (old.given.next_number == greatest) || b) (no_tag_wanting (open_in names old) m.consumer_tag none ∙ ap (nat_le greatest) (none_is laws names old s))
        ∙ or_true (old.given.next_number == greatest)

pub unnamed_judged : NextTagsAreFound → (old : Open) (m : Consume) (o : Option ConsumerRefusal) → length m.consumer_tag ≡ 0 → JudgesUnnamed old.given o → JudgesConsumer old m o
unnamed_judged laws old m None h (few, (left, (n, next))) = unnamed_free laws old m n (no_tag m.consumer_tag h) few left next
unnamed_judged laws old m (Some r) h why = unnamed_refused laws old m r h why

pub unnamed_reason : (g : Given) (r : Result Name ConsumerRefusal) → NamesUnnamed g r → JudgesUnnamed g (result_err r)
unnamed_reason g (Ok name) (few, (left, (next, named))) = (few, (left, (name.number, next)))
unnamed_reason g (Err why) refused = refused

pub unnamed_makes : NextTagsAreFound → (old : Open) (given : Given) (queue : ℕ) (m : Consume) (r : Result Text ConsumeError) → length m.consumer_tag ≡ 0
    → ConsumesUnnamed old.given queue m.no_ack r given → MakesConsumer old queue m r (record old { given = given })
unnamed_makes laws old given queue m (Ok tag) h is = unnamed_is_made laws old given queue m tag h is
unnamed_makes laws old given queue m (Err (Refused r)) h (why, same) = (unnamed_refused laws old m r h why, ap (λ (g : Given). record old { given = g }) same)
unnamed_makes laws old given queue m (Err Memory) h (why, same) = (unnamed_judged laws old m None h why, ap (λ (g : Given). record old { given = g }) same)
