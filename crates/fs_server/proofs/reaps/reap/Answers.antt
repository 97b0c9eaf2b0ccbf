use Rattle.std.proofs.Common.{◌≡◌, ◌+◌, ◌<◌, ◌^◌, [], ◌∷◌, ◌++◌, length, refl, sym, subst, arith, rules}
use Rattle.std.proofs.lemmas.Bool.Decides.{nat_tests}
use Rattle.fs_record.specs.Effects.{reap_effects}
use Rattle.fs_server.specs.Lost.{CanLose}
use Rattle.fs_server.specs.Reaps.{reap_item}
use Rattle.fs_server.proofs.Losing.{lost_is, more_can}
use Rattle.fs_server.proofs.reaps.reap.Goals as goal

pub returns-clause-can : goal.returns-clause-can
returns-clause-can c =
    let effects : c.add_all.new.effects ≡ c.args.lost.now.effects ++ reap_effects c.args.at.now.records c.args.file.now c.args.session = search rules in
    let admitted : c.push.new.self ≡ c.args.lost.now.admitted ++ reap_item c.args.at.now.me ((c.args.at.now.reaps + length c.args.lost.now.admitted) + 1) c.args.file.now c.args.session ∷ [] = search rules in
    let fits : (c.args.at.now.reaps + length c.args.lost.now.admitted) + 1 < 2 ^ 64 = grind (arith, nat_tests, c.requires.few, c.reaps.ensures, c.len.ensures, c.if-so_far.false) in
    subst (λ l. CanLose l c.args.at.now) (sym (lost_is _ _ _ _ effects admitted refl)) (more_can c.args.at.now c.args.lost.now c.args.file.now c.args.session c.requires fits)
