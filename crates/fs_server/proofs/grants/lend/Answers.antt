use Rattle.std.proofs.Common.{◌≡◌, [], ◌∷◌, ◌++◌, ◌+◌, ◌<◌, ◌^◌, length, ap, sym, subst, ◌∙◌, arith}
use Rattle.std.proofs.lemmas.Bool.Decides.{nat_tests}
use Rattle.fs_ident.specs.declared.actor.LeaseNo.{LeaseNo}
use Rattle.fs_moderows.specs.Answer.{given_row}
use Rattle.fs_server.proofs.Lending.{next_row, lent-append, lent_more}
use Rattle.fs_server.specs.Grants.{IsLent, with_leases}
use Rattle.fs_server.specs.Server.{next_number, end_of}
use Rattle.fs_server.proofs.grants.lend.Goals as goal

added : (c : goal.In_ok-add) → c.add.new.lent.rows ≡ c.args.lent.now.rows ++ next_row c.args.by c.args.field.now c.args.kind c.args.promise c.args.lent.now.rows c.args.at.now ∷ []
added c =
    let count : (c.given.result + c.len.result) + 1 ≡ (c.args.at.now.given + length c.args.lent.now.rows) + 1 = omega arith in
    let number : _ ≡ next_number (with_leases c.args.lent.now.rows c.args.at.now) =
    ap (λ m. let n : LeaseNo = record { server = m; count = (c.given.result + c.len.result) + 1 } in n) c.me.ensures
    ∙ ap (λ k. let n : LeaseNo = record { server = c.args.at.now.me; count = k } in n) count in
    c.in_ok-add.ensures.rows ∙ ap (λ (n : LeaseNo). c.args.lent.now.rows ++ given_row n c.args.by c.args.field.now c.args.kind (end_of c.args.at.now) c.args.promise ∷ []) number

pub returns-clause-rows : goal.returns-clause-rows
returns-clause-rows c = ap (λ rows. with_leases rows c.args.at.now) (added c) ∙ lent-append c.args.by c.args.field.now c.args.kind c.args.promise c.args.lent.now.rows c.args.at.now

pub returns-clause-more : goal.returns-clause-more
returns-clause-more c =
    let whole : (with_leases c.args.lent.now.rows c.args.at.now).given < 2 ^ 64 = c.requires.so_far.ready.server.given in
    let fits : (with_leases c.args.lent.now.rows c.args.at.now).given + 1 < 2 ^ 64 = grind (arith, nat_tests, whole, c.given.ensures, c.len.ensures, c.if-given.false) in
    subst (λ rows. IsLent c.args.by rows c.args.at.now) (sym (added c)) (lent_more c.args.by c.args.field.now c.args.kind c.args.promise c.args.lent.now.rows c.args.at.now c.requires.so_far fits c.requires.table)
