use Rattle.std.proofs.Common.{◌+◌, ◌∙◌, ℕ, ap, arith, drop, refl, sym}
use Rattle.fs_ident.specs.declared.actor.PathNo.{PathNo}
use Rattle.fs_path.specs.Into.{parted_each, parts_at}
use Rattle.fs_path.proofs.GoingBehind.{parted_step, parts_rise}
use Rattle.fs_path.proofs.into.part_each.Goals as goal

pub loop-name-init : goal.loop-name-init
loop-name-init c = record {
  within = omega (arith, c.requires.within, c.args.held.now.ok);
  rising = c.requires.rising;
  all = refl;
}

pub loop-name-preserved : goal.loop-name-preserved
loop-name-preserved c =
    let issued = c.args.issued.now in
    let front = c.loop-name.left in
    let none : ℕ × PathNo = (0, record { server = 0; count = 0 }) in
    record {
      within = omega (arith, c.part_one-left.ensures.within, c.part_one-left.new.held.ok);
      rising = parts_rise _ issued front c.part_one-left.result c.loop-name.held.items c.part_one-left.new.held.items c.loop-name.invariant.rising c.part_one-left.ensures.parts;
      all =
          ap (parted_each issued (drop (c.loop-name.name-index + 1) c.args.names.now)) c.part_one-left.ensures.parts
          ∙ sym (parted_step issued c.args.names.now c.loop-name.name-index none (parts_at front c.loop-name.held.items) c.loop-name-test.true)
          ∙ c.loop-name.invariant.all;
    }
