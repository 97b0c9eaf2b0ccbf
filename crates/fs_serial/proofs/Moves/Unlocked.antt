-- What a move hands over is locked by no transaction.
use Rattle.std.proofs.Common.{◌≡◌, ℕ, true, List, [], ◌∷◌, refl, ap, sym, ◌∙◌, cond, subst, inl, inr}
use Rattle.std.specs.Prelude.{Option, Some, None}
use Rattle.fs_ident.specs.In.{In}
use Rattle.fs_ident.specs.declared.actor.TxnNo.{TxnNo}
use Rattle.fs_field.specs.Field.{file_of}
use Rattle.fs_field.specs.declared.row.Row.{Row}
use Rattle.fs_map.specs.Map.{Owners, is_given}
use Rattle.fs_parcel.specs.Parcel.{busy_or}
use Rattle.fs_parcel.specs.declared.error.MoveError.{MoveError}
use Rattle.fs_rows.specs.Moving.{least_of, locked_in}

-- neither is there where the lesser of both is none
none_of_both : (a b : Option TxnNo) → least_of a b ≡ None → (a ≡ None) × (b ≡ None)
none_of_both None b h = (refl, h)
none_of_both (Some a) None h = absurd (cc)
none_of_both (Some a) (Some b) h = absurd (cc)

-- where no transaction is found, none keeps a row on a file that is given
pub unlocked_below : (prefix : List ℕ) (owners : Owners) (me : ℕ) (rows : List Row) → locked_in prefix owners me rows ≡ None
    → (r : Row) → In r rows → is_given owners me prefix (file_of r.field) ≡ true → r.lock ≡ None
unlocked_below prefix owners me [] h r i given = absurd i
unlocked_below prefix owners me (x ∷ xs) h r (inl e) given =
    let own : cond (is_given owners me prefix (file_of x.field)) x.lock None ≡ None = (none_of_both _ _ h).0 in
    let here : is_given owners me prefix (file_of x.field) ≡ true = subst (λ (y : Row). is_given owners me prefix (file_of y.field) ≡ true) e given in
    ap (λ (y : Row). y.lock) e ∙ ap (λ b. cond b x.lock None) (sym here) ∙ own
unlocked_below prefix owners me (x ∷ xs) h r (inr i) given = unlocked_below prefix owners me xs (none_of_both _ _ h).1 r i given

-- a move that is not refused is kept by none
pub free_of : (o : Option TxnNo) (later : Option MoveError) → busy_or o later ≡ None → o ≡ None
free_of None later h = refl
free_of (Some txn) later h = absurd (cc h)
