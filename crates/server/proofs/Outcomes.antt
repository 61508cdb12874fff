-- What the steps of a call come to.
use Rattle.server.proofs.Names.{◌≡◌, ◌++◌, ℕ, Bool, true, false, List, Option, Some, None, take, drop, refl, sym, ap, ◌∙◌, subst, inl, inr, append_assoc, take-append-drop, Appends, Keeps, kind_of, Error, Wanted, AsksFor, AreWordsRefused, Text, Known, AreKept, OutputStream, GetsNothing, PutsOut, TriesPut, change, status_after, CommandRefusal, RunsAs, printed, put_unfiled, reported, unasked, unread, AnswersBut, IsCommandAnswered, IsNotAnswered, PutsBoth, RefusesWith, ShowsError, out_of_memory, refusal_line, status_of}
use Rattle.server.specs.declared.refusals.Report.{Report}
use Rattle.server.specs.Program.{report_failed}

-- ---- streams

-- one that was not written to
pub untouched : (o : Option Text) → Keeps o o
untouched None = tt
untouched (Some bytes) = refl

more : (a b c : Option Text) (xs ys : Text) → Appends a b xs → Appends b c ys → Appends a c (xs ++ ys)
more None b c xs ys p q = tt
more (Some x) None c xs ys p q = absurd p
more (Some x) (Some y) None xs ys p q = absurd q
more (Some x) (Some y) (Some z) xs ys p q = q ∙ ap (λ (l : Text). l ++ ys) p ∙ append_assoc x xs ys

no_more : (a b c : Option Text) (xs : Text) → Appends a b xs → Keeps b c → Appends a c xs
no_more None b c xs p q = tt
no_more (Some x) None c xs p q = absurd p
no_more (Some x) (Some y) None xs p q = absurd q
no_more (Some x) (Some y) (Some z) xs p q = q ∙ p

-- so far the text was put on the stream but for this rest
pub record HasPut (before after : Option Text) (text rest : Text) : Type 0 where
  pub front : Text
  pub whole : text ≡ front ++ rest
  pub gets : Appends before after front

pub piece_put : (a b c : Option Text) (text rest : Text) (n : ℕ) → HasPut a b text rest → Appends b c (take n rest) → HasPut a c text (drop n rest)
piece_put a b c text rest n h p = record {
  front = h.front ++ take n rest;
  whole = h.whole ∙ ap (λ (l : Text). h.front ++ l) (sym (take-append-drop n rest)) ∙ sym (append_assoc h.front (take n rest) (drop n rest));
  gets = more a b c h.front (take n rest) h.gets p;
}

pub nothing_put : (a b c : Option Text) (text rest : Text) → HasPut a b text rest → Keeps b c → HasPut a c text rest
nothing_put a b c text rest h p = record { front = h.front; whole = h.whole; gets = no_more a b c h.front h.gets p }

-- ---- a stream that is written to behind a call that wrote nothing

kept_append : (a b c : Option Text) (xs : Text) → Keeps a b → Appends b c xs → Appends a c xs
kept_append None b c xs p q = tt
kept_append (Some x) None c xs p q = absurd p
kept_append (Some x) (Some y) None xs p q = absurd q
kept_append (Some x) (Some y) (Some z) xs p q = q ∙ ap (λ (l : Text). l ++ xs) p

kept_keeps : (a b c : Option Text) → Keeps a b → Keeps b c → Keeps a c
kept_keeps None b c p q = tt
kept_keeps (Some x) None c p q = absurd p
kept_keeps (Some x) (Some y) None p q = absurd q
kept_keeps (Some x) (Some y) (Some z) p q = q ∙ p

kept_put : (a b c : Option Text) (text : Text) (whole : Bool) → Keeps a b → PutsOut (change b c) text whole → PutsOut (change a c) text whole
kept_put a b c text true k p = kept_append a b c text k p
kept_put a b c text false k p = record { front = p.front; rest = p.rest; whole = p.whole; left = p.left; gets = kept_append a b c p.front k p.gets }

kept_refuses : (a b c : Option Text) (file : Text) (why : CommandRefusal) (n : ℕ) → Keeps a b → RefusesWith (change b c) file why n → RefusesWith (change a c) file why n
kept_refuses a b c file why n k put =
    elim put [
      | inl report ↦ inl (report.0, kept_put a b c (refusal_line file why) report.0 k report.1, report.2)
      | inr report ↦ inr (report.0, kept_put a b c out_of_memory report.0 k report.1, report.2)
    ]

kept_both : (out : OutputStream) (a b c : Option Text) (text : Text) (wanted : ℕ) (unwritten : Option Report) (n : ℕ) → Keeps a b
    → PutsBoth out (change b c) text wanted unwritten n → PutsBoth out (change a c) text wanted unwritten n
kept_both out a b c text wanted None n k p = (p.0, kept_keeps a b c k p.1)
kept_both out a b c text wanted (Some report) n k p = (p.0, p.1, kept_refuses a b c report.file.now report.why n k p.2)

-- ---- the program

at_status : (words : List Text) (before after : Text → Known) (out err : OutputStream) (m n : ℕ) → n ≡ m → RunsAs words before after out err m → RunsAs words before after out err n
at_status words before after out err m n e d = subst (λ (k : ℕ). RunsAs words before after out err k) (sym e) d

four : (done : Bool) → status_after done 4 ≡ 4
four true = refl
four false = refl

prints : (words : List Text) (before after : Text → Known) (out err : OutputStream) (wanted : Wanted) (text : Text) (status n : ℕ)
    → AsksFor words wanted → IsCommandAnswered before after wanted text status → GetsNothing err → TriesPut out text status n → RunsAs words before after out err n
prints words before after out err wanted text status n asks is quiet put =
    at_status words before after out err (status_after put.0 status) n put.2 (printed wanted text status put.0 asks is put.1 quiet)

puts_but : (words : List Text) (before after : Text → Known) (out err : OutputStream) (wanted : Wanted) (text : Text) (status n : ℕ) (unwritten : Option Report)
    → AsksFor words wanted → AnswersBut before after wanted text status unwritten → PutsBoth out err text status unwritten n → RunsAs words before after out err n
puts_but words before after out err wanted text status n None asks is put = prints words before after out err wanted text status n asks is put.1 put.0
puts_but words before after out err wanted text status n (Some report) asks is put = put_unfiled wanted text report.file.now report.why put.0 asks is put.1 put.2

-- what was answered, with nothing on standard error, is put out
pub puts : (words : List Text) (before after : Text → Known) (out : OutputStream) (a b c : Option Text) (wanted : Wanted) (text : Text) (status n : ℕ) (unwritten : Option Report)
    → AsksFor words wanted → AnswersBut before after wanted text status unwritten → Keeps a b → PutsBoth out (change b c) text status unwritten n → RunsAs words before after out (change a c) n
puts words before after out a b c wanted text status n unwritten asks is quiet put =
    puts_but words before after out (change a c) wanted text status n unwritten asks is (kept_both out a b c text status unwritten n quiet put)

pub reports : (words : List Text) (before after : Text → Known) (out err : OutputStream) (wanted : Wanted) (file : Text) (why : CommandRefusal) (n : ℕ)
    → AsksFor words wanted → IsNotAnswered before after wanted file why → GetsNothing out → RefusesWith err file why n → RunsAs words before after out err n
reports words before after out err wanted file why n asks fails quiet put =
    elim put [
      | inl report ↦ at_status words before after out err (status_after report.0 (status_of why)) n report.2 (reported why report.0 asks fails quiet report.1)
      | inr report ↦ at_status words before after out err 4 n (report.2 ∙ four report.0) (report_failed why report.0 asks fails quiet report.1)
    ]

pub shows : (words : List Text) (before after : Text → Known) (out err : OutputStream) (e : Error) (n : ℕ)
    → AreWordsRefused words e → GetsNothing out → AreKept before after → ShowsError (kind_of e) err n → RunsAs words before after out err n
shows words before after out err e n is quiet kept shown =
    elim shown [
      | inl (kind, report) ↦ at_status words before after out err 4 n (report.2 ∙ four report.0) (unread report.0 quiet report.1 kept)
      | inr (kind, report) ↦ at_status words before after out err (status_after report.0 3) n report.1
          (unasked report.0 (elim is [ inl memory ↦ absurd (kind memory) | inr nothing ↦ nothing ]) quiet kept)
    ]
