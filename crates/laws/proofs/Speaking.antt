-- What was sent to a connection so far, by its phase: commands, or the protocol header alone.
use Rattle.laws.proofs.Names.{◌≡◌, ℕ, List, [], ◌∷◌, ◌++◌, true, false, ◌⊎◌, inl, sym, ap, subst, ◌∙◌, append-nil, AllByRecursion, false≢true, is_ended, is_header, Send, Phase}
use Rattle.model.specs.declared.events.Send.TheVariants as send
use Rattle.model.specs.declared.events.Phase.TheVariants as phase

-- it is not the protocol header
abbrev pub IsCommandSend : Send → Type 0
IsCommandSend (send.Greeting c) = ⊥
IsCommandSend (send.Command c h m content) = Unit {0}

abbrev pub AreCommandSends : List Send → Type 0
AreCommandSends sends = AllByRecursion IsCommandSend sends

-- While the first eight bytes are awaited nothing was sent. When all is over it may have been the protocol header alone. Else it was commands.
abbrev pub Spoken : ℕ → Phase → List Send → Type 0
Spoken c phase.Header sends = sends ≡ []
Spoken c phase.Over sends = AreCommandSends sends ⊎ (sends ≡ send.Greeting c ∷ [])
Spoken c p sends = AreCommandSends sends

pub spoken_commands : (c : ℕ) (p : Phase) (sends : List Send) → is_ended p ≡ false → Spoken c p sends → AreCommandSends sends
spoken_commands c phase.Header sends stands s = subst AreCommandSends (sym s) tt
spoken_commands c phase.Over sends stands s = absurd (false≢true (sym stands))
spoken_commands c _ sends stands s = s

pub spoken_over : (c : ℕ) (p : Phase) (sends : List Send) → Spoken c p sends → Spoken c phase.Over sends
spoken_over c phase.Header sends s = inl (subst AreCommandSends (sym s) tt)
spoken_over c phase.Over sends s = s
spoken_over c _ sends s = inl s

-- commands alone, where the eight bytes are not awaited
pub spoken_on : (c : ℕ) (p : Phase) (sends : List Send) → is_header p ≡ false → AreCommandSends sends → Spoken c p sends
spoken_on c phase.Header sends e a = absurd (false≢true (sym e))
spoken_on c phase.Over sends e a = inl a
spoken_on c _ sends e a = a

-- they are awaited still, and nothing more was sent
pub spoken_still : (c : ℕ) (p q : Phase) (sends more : List Send) → is_header p ≡ true → is_header q ≡ true → more ≡ [] → Spoken c p sends → Spoken c q (sends ++ more)
spoken_still c phase.Header phase.Header sends more was is e s = ap (λ (z : List Send). sends ++ z) e ∙ append-nil sends ∙ s
spoken_still c phase.Header _ sends more was is e s = absurd (false≢true is)
spoken_still c _ q sends more was is e s = absurd (false≢true was)
