use Rattle.std.proofs.Common.{◌∙◌, ap, subst, sym}
use Rattle.fs_map.specs.Map.{IsMap}
use Rattle.fs_map.specs.Lists.{owns_given}
use Rattle.fs_map.proofs.Owned.{shown, owned}
use Rattle.fs_map.proofs.file_map.FileMap.owns_given.Goals as goal

pub returns-clause-none : goal.returns-clause-none
returns-clause-none c none =
    shown c.args.self.now c.args.me c.args.piece.now.prefix c.args.piece.now.given (subst IsMap c.self.view_is c.self.invariant) c.requires
    (sym (c.owns_given.ensures ∙ ap (λ owners. owns_given owners c.args.me c.args.piece.now.prefix c.args.piece.now.given) (c.as_slice.ensures ∙ c.self.view_is)) ∙ none)

pub returns-clause-some : goal.returns-clause-some
returns-clause-some c some =
    owned c.args.self.now c.args.me c.args.piece.now.prefix c.args.piece.now.given
    (sym (c.owns_given.ensures ∙ ap (λ owners. owns_given owners c.args.me c.args.piece.now.prefix c.args.piece.now.given) (c.as_slice.ensures ∙ c.self.view_is)) ∙ some)
