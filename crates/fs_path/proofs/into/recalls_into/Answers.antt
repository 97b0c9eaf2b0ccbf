use Rattle.std.proofs.Common.{[], ap, refl, sym, ◌∙◌}
use Rattle.std.specs.FinMap.{entries}
use Rattle.fs_ident.specs.Maps.{map_of}
use Rattle.fs_path.specs.Index.{are_rising, no_of_named}
use Rattle.fs_path.specs.Into.{names_into, names_there, with_under}
use Rattle.fs_path.proofs.Merges.{each_rises}
use Rattle.fs_path.proofs.PrefixWalks.{held_rises, recalled_there}
use Rattle.fs_path.proofs.into.recalls_into.Goals as goal

pub put_each_under-requires-clause-list : goal.put_each_under-requires-clause-list
put_each_under-requires-clause-list c =
    ap (are_rising no_of_named) c.in_ok-list.ensures ∙ each_rises (names_there c.args.map.now c.args.me c.args.prefix.now (entries (map_of c.args.over.now.files))) [] refl

pub put_each_under-requires-clause-held : goal.put_each_under-requires-clause-held
put_each_under-requires-clause-held c = held_rises c.args.had.now.via c.args.held.now c.requires.had.1 (sym c.is_whole-then-is_whole.ensures ∙ c.if-is_whole-2.true)

pub returns-in_ok-put_each_under : goal.returns-in_ok-put_each_under
returns-in_ok-put_each_under c =
    let owners = c.args.map.now in
    let me = c.args.me in
    let prefix = c.args.prefix.now in
    c.in_ok-put_each_under.ensures
    ∙ ap (with_under c.args.over.now.files c.args.held.now c.as_slice.result.now) c.in_ok-list.ensures
    ∙ ap (λ ns. with_under c.args.over.now.files c.args.held.now ns (names_into owners me prefix (entries (map_of c.args.over.now.files)))) (c.as_slice.ensures ∙ c.in_ok-names.ensures)
    ∙ recalled_there owners me prefix c.args.over.now c.args.had.now.via c.args.issued.now c.args.held.now c.requires.over (sym c.is_whole.ensures ∙ c.if-is_whole.true) c.requires.had.1 (sym c.is_whole-then-is_whole.ensures ∙ c.if-is_whole-2.true)
