use Rattle.certificate.proofs.Names.{◌∙◌, List, length, sym, arith, subst, ◌≤◌, slice_index, false≢true}
use Rattle.model.specs.declared.texts.Token.{Token}
use Rattle.certificate.proofs.Forming.{fits_length, fits_more, fits_not, fits_all, fits_as, short_at}
use Rattle.certificate.proofs.form.fits.Goals as goal

pub returns-then-patterns-state : goal.returns-then-patterns-state
returns-then-patterns-state c = ((λ h. absurd (false≢true h)), (λ f. absurd (c.if-patterns-state.true (fits_length c.args.patterns.now c.args.state.now f))))

pub fits_tokens-requires : goal.fits_tokens-requires
fits_tokens-requires c = subst (λ (z : List Token). length z ≤ 31) (sym c.tokens.ensures) (short_at c.args.patterns.now c.loop-at.at c.index-patterns-at.result c.requires c.loop-at-test.true c.index-patterns-at.is)

pub returns-then-not-fits_tokens : goal.returns-then-not-fits_tokens
returns-then-not-fits_tokens c =
    fits_not c.args.patterns.now c.args.state.now c.loop-at.at c.index-patterns-at.result c.loop-at-test.true c.index-patterns-at.is
    (λ f. false≢true (sym c.if-not-fits_tokens.true ∙ (fits_as c.index-patterns-at.result (slice_index c.args.state.now c.loop-at.at) c.tokens.result.now c.fits_tokens.result c.tokens.ensures c.fits_tokens.ensures).1 f))
    c.loop-at.invariant

pub loop-at-preserved : goal.loop-at-preserved
loop-at-preserved c =
    fits_more c.args.patterns.now c.args.state.now c.loop-at.at c.index-patterns-at.result c.loop-at-test.true c.index-patterns-at.is
    ((fits_as c.index-patterns-at.result (slice_index c.args.state.now c.loop-at.at) c.tokens.result.now c.fits_tokens.result c.tokens.ensures c.fits_tokens.ensures).0 c.if-not-fits_tokens.false)
    c.loop-at.invariant

pub returns : goal.returns
returns c = fits_all c.args.patterns.now c.args.state.now c.loop-at.at (omega arith) c.loop-at.invariant
