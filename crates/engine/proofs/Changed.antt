-- One connection of the list became another: what is found by its number, what all keep, and how much is left.
use Rattle.engine.proofs.Names.{◌≡◌, ◌+◌, ◌<◌, ◌≤◌, ℕ, zero, suc, List, [], ◌∷◌, Bool, true, false, cond, Option, Some, None, get_or, set, length, remove, refl, sym, ap, subst, ◌∙◌, arith, ◌==◌, ◌&&◌, not, nat_lt, eqb-true, eq-eqb, false≢true, nat_tests, with_one, new_wire, is_ended, connection_in, session_of, wire_in, wire_of, is_connection_gone, IsConnection, AreConnections, AreRising, Changes, left_to_read, left_in, Connection}
use Rattle.engine.proofs.Numbered.{connection_in-set, connection_in-remove, rising-set, rising-remove, all-set, all-remove, all_at}

-- ---- what is found

pub either : {A : Type 0} (F : Option Connection → A) (ls new_ls : List Connection) (c d : ℕ) (o : Option Connection) → connection_in new_ls d ≡ cond (c == d) o (connection_in ls d)
    → F (connection_in new_ls d) ≡ with_one (λ k. F (connection_in ls k)) c (F o) d
either F ls new_ls c d o e = ap F e ∙ go (c == d) refl
  where
    go : (b : Bool) → (c == d) ≡ b → F (cond b o (connection_in ls d)) ≡ with_one (λ k. F (connection_in ls k)) c (F o) d
    go true q = sym (ap (λ (v : Bool). cond v (F o) (F (connection_in ls d))) (eq-eqb d c (sym (eqb-true c d q))))
    go false q = sym (ap (λ (v : Bool). cond v (F o) (F (connection_in ls d))) (Rattle.engine.proofs.Numbered.other_false d c (λ is. false≢true (sym q ∙ eq-eqb c d (sym is)))))

-- whatever is read of connections by their numbers, where a gone one reads as none
pub found_change : {A : Type 0} (F : Option Connection → A) (ls : List Connection) (i : ℕ) (old new : Connection) (new_ls : List Connection) → AreRising 0 ls → Changes ls i old new new_ls
    → (is_connection_gone new ≡ true → F None ≡ F (Some new)) → (d : ℕ) → F (connection_in new_ls d) ≡ with_one (λ k. F (connection_in ls k)) old.number (F (Some new)) d
found_change F ls i old new new_ls r ch none d = go (is_connection_gone new) refl
  where
    go : (b : Bool) → is_connection_gone new ≡ b → F (connection_in new_ls d) ≡ with_one (λ k. F (connection_in ls k)) old.number (F (Some new)) d
    go true q =
        let left : new_ls ≡ remove ls i = ch.left ∙ ap (λ (b : Bool). cond b (remove ls i) (set ls i new)) q in
        either F ls new_ls old.number d None (ap (λ (z : List Connection). connection_in z d) left ∙ connection_in-remove 0 ls i old d r ch.within ch.here)
        ∙ ap (λ v. with_one (λ k. F (connection_in ls k)) old.number v d) (none q)
    go false q =
        let left : new_ls ≡ set ls i new = ch.left ∙ ap (λ (b : Bool). cond b (remove ls i) (set ls i new)) q in
        either F ls new_ls old.number d (Some new) (ap (λ (z : List Connection). connection_in z d) left ∙ connection_in-set 0 ls i old new d r ch.within ch.here ch.number)

some_waits : (n : ℕ) → nat_lt 0 (suc n) ≡ true
some_waits n = grind (arith, nat_tests)

no_output : (output : List ℕ) → not (nat_lt 0 (length output)) ≡ true → output ≡ []
no_output [] e = refl
no_output (b ∷ bs) e = absurd (false≢true (sym (ap not (some_waits (length bs))) ∙ e))

both : (a b : Bool) → (a && b) ≡ true → (a ≡ true) × (b ≡ true)
both true true e = (refl, refl)
both true false e = absurd (false≢true e)
both false b e = absurd (false≢true e)

pub gone_wire : (l : Connection) → is_connection_gone l ≡ true → wire_of None ≡ wire_of (Some l)
gone_wire l e =
    let parts = both (is_ended l.session.phase) _ e in
    sym (ap (λ (b : Bool). wire_in b l) parts.0 ∙ ap (λ (z : List ℕ). record new_wire { output = z }) (no_output l.output.bytes parts.1))

pub sessions_change : (ls : List Connection) (i : ℕ) (old new : Connection) (new_ls : List Connection) → AreRising 0 ls → Changes ls i old new new_ls
    → (d : ℕ) → session_of (connection_in new_ls d) ≡ with_one (λ k. session_of (connection_in ls k)) old.number new.session d
sessions_change ls i old new new_ls r ch = found_change session_of ls i old new new_ls r ch (λ gone. sym (ch.over gone))

pub wires_change : (ls : List Connection) (i : ℕ) (old new : Connection) (new_ls : List Connection) → AreRising 0 ls → Changes ls i old new new_ls
    → (d : ℕ) → wire_of (connection_in new_ls d) ≡ with_one (λ k. wire_of (connection_in ls k)) old.number (wire_of (Some new)) d
wires_change ls i old new new_ls r ch = found_change wire_of ls i old new new_ls r ch (gone_wire new)

-- ---- what all keep

pub connections_change : (given : ℕ) (ls : List Connection) (i : ℕ) (old new : Connection) (new_ls : List Connection) → AreConnections given ls → Changes ls i old new new_ls → AreConnections given new_ls
connections_change given ls i old new new_ls a ch = go (is_connection_gone new) refl
  where
    go : (b : Bool) → is_connection_gone new ≡ b → AreConnections given new_ls
    go true q =
        let left : new_ls ≡ remove ls i = ch.left ∙ ap (λ (b : Bool). cond b (remove ls i) (set ls i new)) q in
        subst (λ (z : List Connection). AreConnections given z) (sym left) (record { rising = rising-remove 0 ls i a.rising; each = all-remove (IsConnection given) ls i a.each })
    go false q =
        let left : new_ls ≡ set ls i new = ch.left ∙ ap (λ (b : Bool). cond b (remove ls i) (set ls i new)) q in
        let was : IsConnection given old = all_at (IsConnection given) ls i old a.each ch.within ch.here in
        subst (λ (z : List Connection). AreConnections given z) (sym left) (record {
          rising = rising-set 0 ls i old new a.rising ch.within ch.here ch.number;
          each = all-set (IsConnection given) ls i new a.each (record { within = subst (λ (k : ℕ). k ≤ given) (sym ch.number) was.within; here = q; kept = ch.kept was.kept });
        })

-- ---- how much is left

left-set : (ls : List Connection) (i : ℕ) (old new : Connection) → i < length ls → get_or ls i old ≡ old → left_in (set ls i new) + left_to_read old ≡ left_in ls + left_to_read new
left-set [] i old new lt g = absurd (omega (arith, lt))
left-set (x ∷ xs) zero old new lt g = let same : left_to_read x ≡ left_to_read old = ap left_to_read g in omega (arith, same)
left-set (x ∷ xs) (suc i) old new lt g = let rest = left-set xs i old new (omega (arith, lt)) g in omega (arith, rest)

left-remove : (ls : List Connection) (i : ℕ) (old : Connection) → i < length ls → get_or ls i old ≡ old → left_in (remove ls i) + left_to_read old ≡ left_in ls
left-remove [] i old lt g = absurd (omega (arith, lt))
left-remove (x ∷ xs) zero old lt g = let same : left_to_read x ≡ left_to_read old = ap left_to_read g in omega (arith, same)
left-remove (x ∷ xs) (suc i) old lt g = let rest = left-remove xs i old (omega (arith, lt)) g in omega (arith, rest)

pub left_change : (ls : List Connection) (i : ℕ) (old new : Connection) (new_ls : List Connection) → Changes ls i old new new_ls → left_to_read new < left_to_read old → left_in new_ls < left_in ls
left_change ls i old new new_ls ch less = go (is_connection_gone new) refl
  where
    go : (b : Bool) → is_connection_gone new ≡ b → left_in new_ls < left_in ls
    go true q =
        let left : left_in new_ls ≡ left_in (remove ls i) = ap left_in (ch.left ∙ ap (λ (b : Bool). cond b (remove ls i) (set ls i new)) q) in
        let sum = left-remove ls i old ch.within ch.here in
        omega (arith, left, sum, less)
    go false q =
        let left : left_in new_ls ≡ left_in (set ls i new) = ap left_in (ch.left ∙ ap (λ (b : Bool). cond b (remove ls i) (set ls i new)) q) in
        let sum = left-set ls i old new ch.within ch.here in
        omega (arith, left, sum, less)
