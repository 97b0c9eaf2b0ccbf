use Rattle.std.proofs.Common.{◌∙◌, sym, ap}
use Rattle.fs_ident.specs.Maps.{map_of}
use Rattle.fs_model.specs.Ways.{directory_from}
use Rattle.fs_model.proofs.WaysUp.{known_above, grown_true, file_within}
use Rattle.fs_model.proofs.chain.above.Goals as goal

pub returns-in-Some-clause-up : goal.returns-in-Some-clause-up
returns-in-Some-clause-up c = known_above (map_of c.args.nodes.now) c.args.ways.now c.args.at c.in-Some.up c.requires.so (sym c.in-Some.ensures)

pub returns-in_err-up-in-Some-directory_of-clause-so :
    goal.returns-in_err-up-in-Some-directory_of-clause-so
returns-in_err-up-in-Some-directory_of-clause-so c = grown_true (map_of c.args.nodes.now) c.args.ways.now c.place.new.self c.place.ensures.grown c.requires.so

pub learn-requires-clause-at : goal.learn-requires-clause-at
learn-requires-clause-at c = file_within c.place.new.self c.args.at c.file.result.now (c.place.ensures.grown.files c.args.at c.file.result.now c.file.ensures)

pub learn-requires-clause-up : goal.learn-requires-clause-up
learn-requires-clause-up c = file_within c.place.new.self c.in_ok-up-in-Some-directory_of.up c.in-Some-directory_of.dir.now c.in_ok-up-in-Some-directory_of.ensures.at

pub returns-in_ok-up-in-Some-directory_of-clause-so :
    goal.returns-in_ok-up-in-Some-directory_of-clause-so
returns-in_ok-up-in-Some-directory_of-clause-so c =
    let m = map_of c.args.nodes.now in
    c.learn.ensures.so m (grown_true m c.args.ways.now c.place.new.self c.place.ensures.grown c.requires.so)
    (c.in_ok-up-in-Some-directory_of.ensures.at ∙ c.in-Some-directory_of.ensures ∙ ap (directory_from m) (sym (c.place.ensures.grown.files c.args.at c.file.result.now c.file.ensures)))
