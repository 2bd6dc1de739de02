-- Where a template declares no units, or there is none, the agreement is not sized.
use mathlib.Core.Path.{◌∙◌}
use Rattle.std.proofs.lemmas.Bool.{eq-eqb}
use Rattle.sizes.proofs.Filling.{fits_sized, fits_undeclared, fits_untemplated}
use Rattle.sizes.proofs.fits.Goals as goal

pub returns-then-template_count-eq0 : goal.returns-then-template_count-eq0
returns-then-template_count-eq0 c =
    eq-eqb _ 0 c.if-template_count-eq0.true
    ∙ fits_untemplated c.args.agreement.now c.template_count.ensures.0 c.if-template_count-eq0.true

pub returns-else-template_count-eq0 : goal.returns-else-template_count-eq0
returns-else-template_count-eq0 c =
    fits_sized c.args.agreement.now c.template_count.ensures.0 c.if-template_count-eq0.false c.in-Some.ensures.0
    c.all_fit.ensures

pub returns-in-None : goal.returns-in-None
returns-in-None c = fits_undeclared c.args.agreement.now c.in-None.ensures
