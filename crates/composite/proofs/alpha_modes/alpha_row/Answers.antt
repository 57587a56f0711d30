use Rattle.composite.proofs.alpha_modes.Alphas.{pixel_done}
use Rattle.composite.proofs.alpha_modes.alpha_row.Goals as goal

pub returns-in-Pixel : goal.returns-in-Pixel
returns-in-Pixel c = rw c.in-Pixel.is (pixel_done _ _ _)

pub returns-in-Global : goal.returns-in-Global
returns-in-Global c = rw c.in-Global.is c.set_alphas.ensures

pub returns-in-Mixed : goal.returns-in-Mixed
returns-in-Mixed c = rw c.in-Mixed.is c.mix_alphas.ensures
