use Rattle.std.proofs.Common.{◌≡◌, ◌≤◌, ◌+◌, ◌-◌, ◌∙◌, [], ◌∷◌, length, suc, ap, sym, subst, take, drop, arith}
use Rattle.fs_path.specs.Into.{HasLeases, without_those}
use Rattle.fs_path.specs.Tables.{lease_of}
use Rattle.fs_path.proofs.GoingBehind.{gone_more, last_goes}
use Rattle.fs_path.proofs.Over.{forgets_rise}
use Rattle.fs_path.proofs.into.let_go_behind.Goals as goal

pub loop-held-preserved : goal.loop-held-preserved
loop-held-preserved c =
    let all = c.args.held.now.items in
    let h = c.remove-h.result in
    let at = c.len-last.result - 1 in
    let long : length c.loop-held.held.items ≡ suc at = omega (arith, c.loop-held-test.true, c.len.ensures, c.len-last.ensures, c.loop-held.held.ok) in
    let within : c.args.front ≤ at = omega (arith, c.loop-held-test.true, c.len.ensures, c.len-last.ensures) in
    let left : length c.remove-h.new.self.items ≡ at = omega (arith, long, c.remove-h.ensures.len, c.loop-held.held.ok, c.remove-h.new.self.ok) in
    let shorter = last_goes c.loop-held.held.items all c.remove-h.new.self.items at h c.loop-held.invariant.held long c.remove-h.ensures.items c.remove-h.ensures.value in
    let more : length c.loop-held.held.items ≡ at + 1 = omega (arith, long) in
    record {
      within = omega (arith, left, within);
      held = shorter.held ∙ ap (λ n. take n all) (sym left);
      own = λ w. let before = sym c.forget.ensures.own_whole ∙ w in forgets_rise (lease_of h).no ((lease_of h).file ∷ []) c.loop-held.had.own.files c.forget.new.self.own.files (c.loop-held.invariant.own before) (c.forget.ensures.own before);
      via = λ w. let before = sym c.forget.ensures.via_whole ∙ w in forgets_rise (lease_of h).no (lease_of h).path c.loop-held.had.via.files c.forget.new.self.via.files (c.loop-held.invariant.via before) (c.forget.ensures.via before);
      had = λ ls some has.
          subst (λ n. HasLeases c.forget.new.self (without_those (drop n all) ls)) (sym left)
          (gone_more all c.args.front at h ls c.args.had.now c.loop-held.had c.forget.new.self within shorter.inside shorter.is
          (λ x. subst (λ n. HasLeases c.loop-held.had (without_those (drop n all) ls)) more (c.loop-held.invariant.had ls some x)) some
          (sym c.forget.ensures.own_whole) (sym c.forget.ensures.via_whole) c.forget.ensures.own c.forget.ensures.via has);
    }

pub returns-clause-had : goal.returns-clause-had
returns-clause-had c = λ ls some has.
    let e : length c.loop-held.held.items ≡ c.args.front = omega (arith, c.loop-held-test.false, c.len.ensures, c.loop-held.invariant.within, c.loop-held.held.ok) in
    subst (λ n. HasLeases c.loop-held.had (without_those (drop n c.args.held.now.items) ls)) e (c.loop-held.invariant.had ls some has)
