-- What is left to be done of a command is done.
use Rattle.commands.proofs.Names.{◌≡◌, ℕ, Option, None, Result, Ok, sym, subst, IfOk, IfOk-weaker, AllocError, OnConnection, Content, Method, Stop, Done, Acted, Kept, broker_of, topology_kept, AnswersOn, UnlessPerformed, CanFinish}
use Rattle.std.proofs.Common.{Some}
use Rattle.commands.specs.Counted.{AreCounted}
use Rattle.commands.specs.Steps.{AddressesLeft, AddressesReplies, FinishesOn}
use Rattle.commands.specs.declared.commands.asking.Left as asked
use Rattle.commands.specs.declared.commands.Done.TheVariants.{Left}
use Rattle.commands.proofs.Stepping.{decides_on}

-- The command `m` came to `r`, which asks for `l`.
module _ (old mid : Kept) (c h : ℕ) (m : Method) (content : Option Content) (l : asked.Left) (r : Result Done Stop) (is : r ≡ Ok (Left l))
    (kept : UnlessPerformed r (mid ≡ old)) (answers : AnswersOn old c h m content (Some r) mid) where
  same : mid ≡ old
  same = subst (λ (x : Result Done Stop). UnlessPerformed x (mid ≡ old)) is kept

  decided : AnswersOn old c h m content (Some (Ok (Left l))) mid
  decided = subst (λ (x : Result Done Stop). AnswersOn old c h m content (Some x) mid) is answers

  -- it can be done
  pub left_can : CanFinish (topology_kept mid) ((broker_of mid).channel c h) l
  left_can = let (conn, at, judged) = decided in subst (λ (k : Kept). CanFinish (topology_kept k) ((broker_of k).channel c h) l) (sym same) (m, judged.1)

  pub left_counted : (IsCount : ℕ → ℕ → Type 0) → AreCounted old IsCount → AreCounted mid IsCount
  left_counted IsCount counted = subst (λ (k : Kept). AreCounted k IsCount) (sym same) counted

  -- and what it does is what the command does
  pub left_done : (new : Kept) (done : Result Acted AllocError) → IfOk done (λ a. FinishesOn mid c h l a.step new)
      → IfOk done (λ a. OnConnection (topology_kept old) (broker_of old) c h m content a.step.sends.items a.step.notes.items (broker_of new) ((broker_of old).connection c))
  left_done new done does =
      let (conn, at, judged) = decided in
      IfOk-weaker done _ _
      (λ a own. decides_on (topology_kept old) (broker_of old) c h m content None a.step.sends.items a.step.notes.items (broker_of new) conn at judged.0 (own m content judged.1))
      (subst (λ (k : Kept). IfOk done (λ a. FinishesOn k c h l a.step new)) same does)

  -- what it sends has its address
  pub left_own : (done : Result Acted AllocError) → IfOk done (λ a. AddressesLeft mid c h l a.step.sends.items) → IfOk done (λ a. AddressesReplies (broker_of old) c m a.step.sends.items)
  left_own done own =
      let (conn, at, judged) = decided in
      IfOk-weaker done _ _ (λ a its. its m judged.1) (subst (λ (k : Kept). IfOk done (λ a. AddressesLeft k c h l a.step.sends.items)) same own)
