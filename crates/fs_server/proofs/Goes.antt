-- Transactions that the server leads, carried out.
use Rattle.std.proofs.Common.{◌≡◌, ℕ, Bool, true, false, not, List, [], ◌∷◌, refl, ap, sym, ◌∙◌, cond}
use Rattle.fs_ident.specs.declared.actor.TxnNo.{TxnNo}
use Rattle.fs_field.specs.Table.{same_txn}
use Rattle.fs_field.specs.declared.effect.Effect.{Effect}
use Rattle.fs_field.specs.declared.used.Use.{Use}
use Rattle.fs_path.specs.Leases.{comes_before}
use Rattle.fs_path.specs.Returns.{without_txn}
use Rattle.fs_path.specs.Tables.{with_all_frozen, with_frozen}
use Rattle.fs_txn.specs.declared.leading.Ending.{Ending}
use Rattle.fs_txn.proofs.Keys.{txn_itself}
use Rattle.fs_server.specs.Plan.{changed}
use Rattle.fs_server.specs.declared.change.Change.TheVariants as change
use Rattle.fs_server.specs.declared.change.Then.{Then}
use Rattle.fs_server.specs.declared.change.Then.TheVariants.{Ends}
use Rattle.fs_server.specs.declared.state.Server.{Server}

-- ## Files that are kept and free again

freed_again : (txn : TxnNo) (file : List ℕ) (xs : List (List ℕ × TxnNo)) → without_txn txn (with_frozen file txn xs) ≡ without_txn txn xs
freed_again txn file [] = ap (λ b. cond (not b) ((file, txn) ∷ []) []) (txn_itself txn)
freed_again txn file (y ∷ ys) = by (comes_before (txn.server, txn.count) (y.1.server, y.1.count)) (freed_again txn file ys)
  where
    by : (b : Bool) → without_txn txn (with_frozen file txn ys) ≡ without_txn txn ys
        → without_txn txn (cond b ((file, txn) ∷ y ∷ ys) (y ∷ with_frozen file txn ys)) ≡ without_txn txn (y ∷ ys)
    by true rest = ap (λ b. cond (not b) ((file, txn) ∷ without_txn txn (y ∷ ys)) (without_txn txn (y ∷ ys))) (txn_itself txn)
    by false rest = ap (λ zs. cond (not (same_txn y.1 txn)) (y ∷ zs) zs) rest

pub files_back : (txn : TxnNo) (fs : List (List ℕ)) (xs : List (List ℕ × TxnNo)) → without_txn txn (with_all_frozen txn fs xs) ≡ without_txn txn xs
files_back txn [] xs = refl
files_back txn (f ∷ fs) xs = files_back txn fs (with_frozen f txn xs) ∙ freed_again txn f xs

-- those that it would keep are free where it ends
pub ends_free : (begins : Bool) (txn : TxnNo) (uses : List Use) (files : List (List ℕ)) (effects removals : List Effect) (x : Ending) (keeps : Bool)
    (rest : Then) (s : Server) → rest ≡ Ends effects removals x keeps
    → changed (change.Lead begins txn uses [] rest) s ≡ changed (change.Lead begins txn uses files rest) s
ends_free begins txn uses files effects removals x keeps rest s e =
    ap (λ (r : Then). changed (change.Lead begins txn uses [] r) s) e
    ∙ ap (λ frozen. record (changed (change.Lead begins txn uses [] (Ends effects removals x keeps)) s) { paths = record s.paths { frozen = frozen } })
    (sym (files_back txn files s.paths.frozen))
    ∙ sym (ap (λ (r : Then). changed (change.Lead begins txn uses files r) s) e)
