-- What arrived for a connection is what its socket gave and took, deed by deed.
use Rattle.serving.proofs.Names.{◌≡◌, ◌+◌, ℕ, List, [], ◌∷◌, ◌++◌, Bool, true, false, Option, Some, None, length, refl, sym, ap, subst, ◌∙◌, flat_map, filter_map, count_by, arith, filter_map-append, sum_by-append, ◌==◌, if◌then◌else◌, AllByRecursion, Config, Occurrence, Call, Attempt, Served, Deed, Enters, Leaves, Stays, Met, Turned_away, Met_no_one, Heard, Heard_partly, Heard_nothing, Heard_end, Gave, Gave_partly, Gave_nothing, Gave_up, Pumped_nothing, Pump_refused, Closed_gone, Paused, Reload_decided, Reload_undecided, calls, attempts, DoesDeed, Story, piece_for, amount_for, is_loss_of, is_short_for, got_of, count_of, is_end_of, IsJoined, AreJoined, Arrival, Peer, Lacks}
use Rattle.serving.specs.Story.{Pumped}
use Rattle.model.specs.declared.events.Arrival.TheVariants as arrival
use Rattle.serving.proofs.Pairs.{peer_of, PairsWith, pairs_in}

joined_none : (p : Peer) → IsJoined p [] []
joined_none p = record { pieces = refl; amounts = refl; losses = refl }

joined_then : (p : Peer) (xs ys : List Call) (as' bs : List Attempt) → IsJoined p xs as' → IsJoined p ys bs → IsJoined p (xs ++ ys) (as' ++ bs)
joined_then p xs ys as' bs j k = record {
  pieces = filter_map-append (piece_for p.connection) as' bs ∙ ap (λ (z : List (List ℕ)). z ++ filter_map (piece_for p.connection) bs) j.pieces
      ∙ ap (λ (z : List (List ℕ)). filter_map (got_of p.socket) xs ++ z) k.pieces ∙ sym (filter_map-append (got_of p.socket) xs ys);
  amounts = filter_map-append (amount_for p.connection) as' bs ∙ ap (λ (z : List ℕ). z ++ filter_map (amount_for p.connection) bs) j.amounts
      ∙ ap (λ (z : List ℕ). filter_map (count_of p.socket) xs ++ z) k.amounts ∙ sym (filter_map-append (count_of p.socket) xs ys);
  losses =
      let a : count_by (is_loss_of p.connection) (as' ++ bs) ≡ count_by (is_loss_of p.connection) as' + count_by (is_loss_of p.connection) bs = sum_by-append _ as' bs in
      let b : count_by (is_end_of p.socket) (xs ++ ys) ≡ count_by (is_end_of p.socket) xs + count_by (is_end_of p.socket) ys = sum_by-append _ xs ys in
      let c : count_by (is_short_for p.connection) (as' ++ bs) ≡ count_by (is_short_for p.connection) as' + count_by (is_short_for p.connection) bs = sum_by-append _ as' bs in
      let d = j.losses in
      let e = k.losses in
      omega (arith, a, b, c, d, e);
}

-- of an opening nothing is told
opening_joined : (p : Peer) (o : Attempt) (xs : List Call) → o.arrival ≡ arrival.Open → IsJoined p xs [] → IsJoined p xs (o ∷ [])
opening_joined p o xs e j =
    subst (λ (z : Arrival Config). IsJoined p xs (record { arrival = z; is_whole = o.is_whole } ∷ [])) (sym e) (go o.is_whole)
  where
    go : (b : Bool) → IsJoined p xs (record { arrival = arrival.Open; is_whole = b } ∷ [])
    go true = record { pieces = j.pieces; amounts = j.amounts; losses = j.losses }
    go false = record { pieces = j.pieces; amounts = j.amounts; losses = j.losses }

-- ---- each deed of q, where q has p's connection exactly where it has p's socket

same_bytes : (x y : Bool) (bytes : List ℕ) → x ≡ y → filter_map (λ (o : Option (List ℕ)). o) ((if x then Some bytes else None) ∷ []) ≡ filter_map (λ (o : Option (List ℕ)). o) ((if y then Some bytes else None) ∷ [])
same_bytes x y bytes e = ap (λ (b : Bool). filter_map (λ (o : Option (List ℕ)). o) ((if b then Some bytes else None) ∷ [])) e

same_amount : (x y : Bool) (n : ℕ) → x ≡ y → filter_map (λ (o : Option ℕ). o) ((if x then Some n else None) ∷ []) ≡ filter_map (λ (o : Option ℕ). o) ((if y then Some n else None) ∷ [])
same_amount x y n e = ap (λ (b : Bool). filter_map (λ (o : Option ℕ). o) ((if b then Some n else None) ∷ [])) e

short_loss : (x : Bool) → count_by (λ (b : Bool). b) (false ∷ x ∷ []) ≡ count_by (λ (b : Bool). b) (false ∷ false ∷ []) + count_by (λ (b : Bool). b) (x ∷ false ∷ [])
short_loss true = refl
short_loss false = refl

end_loss : (x : Bool) → count_by (λ (b : Bool). b) (x ∷ []) ≡ count_by (λ (b : Bool). b) (x ∷ false ∷ []) + count_by (λ (b : Bool). b) (false ∷ [])
end_loss true = refl
end_loss false = refl

same_end : (x y : Bool) → x ≡ y → count_by (λ (b : Bool). b) (x ∷ []) ≡ count_by (λ (b : Bool). b) (y ∷ false ∷ []) + count_by (λ (b : Bool). b) (false ∷ [])
same_end x y e = ap (λ (b : Bool). count_by (λ (b : Bool). b) (b ∷ [])) e ∙ end_loss y

joined_one : {L : Lacks} (p : Peer) (v w : Served) (d : Deed) (os : List Occurrence) → DoesDeed L v d os w → PairsWith p (peer_of d) → IsJoined p (calls d) (attempts d)
joined_one p v w (Met i q) os does pair = record { pieces = refl; amounts = refl; losses = refl }
joined_one p v w (Turned_away s o) os does pair = opening_joined p o _ does.table.0 (record { pieces = refl; amounts = refl; losses = refl })
joined_one p v w (Met_no_one true) os does pair = record { pieces = refl; amounts = refl; losses = refl }
joined_one p v w (Met_no_one false) os does pair = record { pieces = refl; amounts = refl; losses = refl }
joined_one p v w (Heard i q room bytes Enters) os does pair = record { pieces = same_bytes (q.connection == p.connection) (q.socket == p.socket) bytes pair; amounts = refl; losses = refl }
joined_one p v w (Heard i q room bytes Leaves) os does pair = record { pieces = same_bytes (q.connection == p.connection) (q.socket == p.socket) bytes pair; amounts = refl; losses = refl }
joined_one p v w (Heard i q room bytes Stays) os does pair = record { pieces = same_bytes (q.connection == p.connection) (q.socket == p.socket) bytes pair; amounts = refl; losses = refl }
joined_one p v w (Heard_partly i q room bytes) os does pair = record { pieces = same_bytes (q.connection == p.connection) (q.socket == p.socket) bytes pair; amounts = refl; losses = short_loss (q.connection == p.connection) }
joined_one p v w (Heard_nothing i q room) os does pair = record { pieces = refl; amounts = refl; losses = refl }
joined_one p v w (Heard_end i q room true) os does pair = record { pieces = refl; amounts = refl; losses = same_end (q.connection == p.connection) (q.socket == p.socket) pair }
joined_one p v w (Heard_end i q room false) os does pair = record { pieces = refl; amounts = refl; losses = same_end (q.connection == p.connection) (q.socket == p.socket) pair }
joined_one p v w (Gave i q offered taken Enters) os does pair = record { pieces = refl; amounts = same_amount (q.connection == p.connection) (q.socket == p.socket) (length taken) pair; losses = refl }
joined_one p v w (Gave i q offered taken Leaves) os does pair = record { pieces = refl; amounts = same_amount (q.connection == p.connection) (q.socket == p.socket) (length taken) pair; losses = refl }
joined_one p v w (Gave i q offered taken Stays) os does pair = record { pieces = refl; amounts = same_amount (q.connection == p.connection) (q.socket == p.socket) (length taken) pair; losses = refl }
joined_one p v w (Gave_partly i q offered taken) os does pair = record { pieces = refl; amounts = same_amount (q.connection == p.connection) (q.socket == p.socket) (length taken) pair; losses = short_loss (q.connection == p.connection) }
joined_one p v w (Gave_nothing i q offered) os does pair = record { pieces = refl; amounts = refl; losses = refl }
joined_one p v w (Gave_up i q offered) os does pair = record { pieces = refl; amounts = refl; losses = same_end (q.connection == p.connection) (q.socket == p.socket) pair }
joined_one p v w Pumped os does pair = record { pieces = refl; amounts = refl; losses = refl }
joined_one p v w Pumped_nothing os does pair = record { pieces = refl; amounts = refl; losses = refl }
joined_one p v w Pump_refused os does pair = record { pieces = refl; amounts = refl; losses = refl }
joined_one p v w (Closed_gone i q) os does pair = record { pieces = refl; amounts = refl; losses = refl }
joined_one p v w Paused os does pair = record { pieces = refl; amounts = refl; losses = refl }
joined_one p v w (Reload_decided g) os does pair = record { pieces = refl; amounts = refl; losses = refl }
joined_one p v w (Reload_undecided g) os does pair = record { pieces = refl; amounts = refl; losses = refl }

pub joined_all : (L : Lacks) (p : Peer) (ds : List Deed) (v w : Served) (os : List Occurrence) → Story L v ds os w → AllByRecursion (λ d. PairsWith p (peer_of d)) ds → IsJoined p (flat_map calls ds) (flat_map attempts ds)
joined_all L p [] v w os s a = joined_none p
joined_all L p (d ∷ ds) v w os (mid, first, rest, e, does, s) a = joined_then p (calls d) (flat_map calls ds) (attempts d) (flat_map attempts ds) (joined_one p v mid d first does a.0) (joined_all L p ds mid w rest s a.1)

-- from a server with no socket
pub are_joined : (L : Lacks) (ds : List Deed) (v w : Served) (os : List Occurrence) → v.peers ≡ [] → Story L v ds os w → AreJoined ds
are_joined L ds v w os none s p i = joined_all L p ds v w os s (pairs_in L ds v w os none s p i)
