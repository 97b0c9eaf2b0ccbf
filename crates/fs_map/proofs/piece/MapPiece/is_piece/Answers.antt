use Rattle.std.proofs.Common.{◌≡◌, ◌∙◌, ap, sym}
use Rattle.fs_map.specs.Lists.{is_piece}
use Rattle.fs_map.proofs.Testing.{test_piece, piece_test}
use Rattle.fs_map.proofs.piece.MapPiece.is_piece.Goals as goal

pub returns-clause-piece : goal.returns-clause-piece
returns-clause-piece c =
    let is : c.is_shortest.result ≡ is_piece c.args.self.now.prefix c.args.self.now.given = c.is_shortest.ensures ∙ ap (is_piece c.args.self.now.prefix) c.as_slice.ensures in
    (λ h. test_piece c.args.self.now.prefix c.args.self.now.given (sym is ∙ h), λ p. is ∙ piece_test c.args.self.now.prefix c.args.self.now.given p)
