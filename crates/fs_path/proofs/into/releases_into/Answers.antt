use Rattle.std.proofs.Common.{◌≡◌, ap, sym, subst, ◌∙◌}
use Rattle.std.specs.Prelude.{IfOk}
use Rattle.std.specs.List.{filter, find}
use Rattle.fs_path.specs.Into.{is_free}
use Rattle.fs_path.specs.Returns.{is_of}
use Rattle.fs_path.proofs.PrefixWalks.{held_rises, released_there}
use Rattle.fs_path.proofs.into.releases_into.Goals as goal

pub free_names-requires-clause-held : goal.free_names-requires-clause-held
free_names-requires-clause-held c = held_rises c.args.had.now.via c.args.held.now c.requires.had.1 (sym c.is_whole.ensures ∙ c.if-is_whole.true)

pub returns-in_ok-names : goal.returns-in_ok-names
returns-in_ok-names c =
    let issued = c.args.issued.now in
    let held = c.args.held.now in
    subst (λ ns. IfOk c.free_names.result (λ list. list ≡ ns))
    (ap (filter (λ n. is_free issued (find (is_of n.1) held))) (c.as_slice.ensures ∙ c.in_ok-names.ensures)
    ∙ released_there c.args.map.now c.args.me c.args.prefix.now c.args.had.now.via issued held c.requires.had.1 (sym c.is_whole.ensures ∙ c.if-is_whole.true))
    c.free_names.ensures
