-- What a client asks for is of the kind that is given.
use Rattle.std.proofs.Common.{◌≡◌, ℕ, Bool, true, not, List, ap, subst}
use Rattle.std.specs.Prelude.{Some, filter}
use Rattle.fs_ident.specs.In.{In}
use Rattle.fs_ident.proofs.Standing.{In-filter}
use Rattle.fs_field.specs.declared.asked.Need.{Need}
use Rattle.fs_field.specs.declared.asked.Need.TheVariants as need
use Rattle.fs_field.specs.declared.field.Field.{Field}
use Rattle.fs_field.specs.declared.lease_kind.LeaseKind.{LeaseKind}
use Rattle.fs_model.specs.declared.op.Op.{Op}
use Rattle.fs_model.specs.Asking.{home_of}
use Rattle.fs_client.specs.Acts.{item_of, items_of, worth, is_futile}
use Rattle.fs_view.specs.Script.{script_of}
use Rattle.fs_view.specs.Walk.{Known, Given, walk, missing, is_there}
use Rattle.fs_serial.specs.World.{is_called}
use Rattle.fs_serial.proofs.Replies.HomeAsks.{IsAtHome, MayGive, called_home, items_home}
use Rattle.fs_serial.proofs.Replies.Knowing.{In-filter_map, from-filter_map}
use Rattle.fs_model.specs.declared.op.Op.TheVariants as op
use Rattle.fs_server.specs.Asks.{kind_for}
use Rattle.fs_serial.proofs.LedOperations.MoveScripts.{IsItemOn, delete_on, items_on, rename_on}
use Rattle.fs_serial.proofs.ClientMessages.Sends.{AreOfGivenKinds}

item_is : (n : Need) (x : Field × LeaseKind) → item_of n ≡ Some x → n ≡ need.Lease x.0 x.1
item_is (need.Lease field kind) x h = let q : (field, kind) ≡ x = cc in ap (λ (p : Field × LeaseKind). need.Lease p.0 p.1) q
item_is (need.Fresh dir) x h = absurd (cc)

-- the kinds are those that servers give
kinds_given : (known : Known) (given : Given) (o : Op) → is_called o ≡ true → (n : Need) → In n (walk known given o).items → (x : Field × LeaseKind) → n ≡ need.Lease x.0 x.1 → kind_for x.0 x.1 ≡ x.1
kinds_given known given (op.Delete dir name) h n i x e = (subst (IsItemOn (λ f. Unit {0})) e (items_on (λ f. Unit {0}) known given (script_of (op.Delete dir name)) (delete_on (λ f. Unit {0}) known dir name tt (λ f q. tt)) n i)).0
kinds_given known given (op.Rename sdir sname ddir dname) h n i x e = (subst (IsItemOn (λ f. Unit {0})) e (items_on (λ f. Unit {0}) known given (script_of (op.Rename sdir sname ddir dname)) (rename_on (λ f. Unit {0}) known sdir sname ddir dname tt tt (λ f q. tt)) n i)).0
kinds_given known given (op.Reap file session) h n i x e = absurd (cc)
kinds_given known given o h n i x e = (subst (IsAtHome (home_of o)) e (items_home (MayGive o) known given (home_of o) (script_of o) (called_home o h) n i)).0

-- the items of a question for an operation that a caller asks for
pub asks_given : (known : Known) (given : Given) (full : List (List ℕ)) (o : Op) → is_called o ≡ true → AreOfGivenKinds (items_of (worth full (missing known given o)))
asks_given known given full o h x i =
    let q = from-filter_map item_of x (worth full (missing known given o)) i in
    let j : In q.0 (walk known given o).items = In-filter (λ n. not (is_there known given n)) q.0 (walk known given o).items (In-filter (λ n. not (is_futile full n)) q.0 (missing known given o) q.1) in
    kinds_given known given o h q.0 j x (item_is q.0 x q.2)

-- so are some of them
pub some_given : (test : Need → Bool) (needs : List Need) → AreOfGivenKinds (items_of needs) → AreOfGivenKinds (items_of (filter test needs))
some_given test needs h x i = let q = from-filter_map item_of x (filter test needs) i in h x (In-filter_map item_of q.0 x needs (In-filter test q.0 needs q.1) q.2)
