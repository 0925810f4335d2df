use Rattle.std.proofs.Common.{◌≡◌, ℕ, ◌+◌, ap, ◌∙◌, arith}
use mathlib.Core.Path.{fun_ext}
use Rattle.std.proofs.lemmas.Bool.Decides.{nat_tests}
use Rattle.device.specs.declared.page.Page.{Page}
use Rattle.device.specs.Pages.{page, object_of}
use Rattle.device.specs.Disks.{DiskState, write_state}
use Rattle.device.specs.Numbered.{numbered_value, numbered_below}
use Rattle.device.proofs.Rows.{write_row}
use Rattle.device.proofs.numbered.number_pages.Goals as goal

-- one page more
numbered_more : (d e : DiskState) (p : ℕ) (g : Page) → e ≡ numbered_below p d → g ≡ page (numbered_value p) → write_state e p (object_of g) 8 ≡ numbered_below (p + 1) d
numbered_more d e p g before new =
    ap (λ x. write_state e p (object_of x) 8) new
    ∙ write_row e p 8 (numbered_value p)
    ∙ ap (λ x. write_state x p (numbered_value p) 8) before
    ∙ ap (λ f. record { good = d.good; object = f }) (fun_ext (λ q. fun_ext (λ o. grind (arith, nat_tests))))

pub loop-p-preserved : goal.loop-p-preserved
loop-p-preserved g c = c.write.ensures.after ∙ numbered_more (g.D.Disk.state c.args.disk.now) _ c.loop-p.p _ c.loop-p.invariant c.numbered_page.ensures
