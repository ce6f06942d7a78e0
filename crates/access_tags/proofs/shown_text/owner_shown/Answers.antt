use Rattle.std.proofs.Common.{◌<◌, ◌^◌, ℕ, subst, sym, arith}
use Rattle.order_law.specs.OwnRecord.{owner_in}
use Rattle.access_tags.proofs.shown_text.owner_shown.Goals as goal

pub returns : goal.returns
unfolding owner_in
returns c =
    let number = c.in-Some.ensures in let few = c.fits-2.ensures in
    subst (λ (z : ℕ × ℕ). (z.0 < 2 ^ 64) × (z.1 < 2 ^ 64)) (sym c.maker-owner.ensures) (c.fits.ensures, omega arith)
