-- Messages between servers behind their tags, and what they carry.
use Rattle.std.proofs.Common.{◌≡◌, ℕ, ◌<◌, not, ◌||◌, Bool, true, false, eqb, List, ◌++◌, refl, arith}
use Rattle.std.proofs.lemmas.Bool.{eqb-true, agree_below_at}
use Rattle.fs_msg.specs.declared.peer_msg.PeerMsg.{PeerMsg}
use Rattle.fs_msg.specs.declared.peer_msg.PeerMsg.TheVariants as peer_
use Rattle.fs_ident.specs.Ident.{IsId}
use Rattle.fs_wire.specs.Spelling.{identifier, list, pair, path_lease}
use Rattle.fs_wire.specs.Ranges.{FitsList, FitsPair, FitsPathLease}
use Rattle.fs_wire.specs.Tags.{one_tag, plain}
use Rattle.fs_wire.specs.Readers.{either_at, list_at, pair_at}
use Rattle.fs_wire.specs.Reading.{identifier_at, path_lease_at}
use Rattle.fs_wire.proofs.Readers.{IsOne, IsReader, either-reader}
use Rattle.fs_wire.proofs.Says.{says-map}
use Rattle.fs_wire.proofs.Behind.{IsBehind, behind, other, implied}
use Rattle.fs_wire.proofs.Wires.{Spelled, IsWire, arm, pair-wire, plain-pair, remade}
use Rattle.fs_wire.proofs.NumberWires.{list-wire, plain-list}
use Rattle.fs_wire.proofs.SmallWires.{path_lease-wire, truth-wire}
use Rattle.fs_wire.proofs.NameWires.{identifier-wire}
use Rattle.fs_wire.proofs.NextWires.{next-wire}
use Rattle.fs_wire.proofs.RowWires.{node-wire, row-wire}
use Rattle.fs_msg.specs.Spelling.{file_record, piece, parcel, peer_message, why}
use Rattle.fs_msg.specs.Ranges.{FitsRecord, FitsPiece, FitsParcel, FitsPeerMessage, FitsWhy}
use Rattle.fs_msg.specs.Tags.{parcel_tags, peer_tags}
use Rattle.fs_msg.specs.Reading.{record_at, piece_at, parcel_at, why_at, is_peer_tag, peer_of}
use Rattle.fs_msg.proofs.LedWires.{why-wire, prepare-wire, voted-wire, decide-wire, done-wire}

pub record-wire : IsWire record_at FitsRecord file_record (λ r. plain (file_record r))
unfolding record_at file_record
record-wire = remade _ (λ r. (r.node, r.next)) FitsRecord file_record (λ r. plain (file_record r)) (plain-pair node-wire next-wire)
    (λ v f. record { node = f.0; next = f.1 }) (λ w f. (f.node, f.next)) (λ v. refl) (λ w s. s)

pub piece-wire : IsWire piece_at FitsPiece piece (λ p. plain (piece p))
unfolding piece_at piece
piece-wire = remade _ (λ p. (p.prefix, p.given)) FitsPiece piece (λ p. plain (piece p)) (plain-pair identifier-wire (plain-list (plain-pair identifier-wire truth-wire)))
    (λ v f. record { prefix = f.0; given = f.1 }) (λ w f. (f.prefix, f.given)) (λ v. refl) (λ w s. s)

pub parcel-wire : IsWire parcel_at FitsParcel parcel parcel_tags
unfolding parcel_at parcel parcel_tags
parcel-wire = remade _ (λ p. (p.prefix, (p.piece, (p.records, p.rows)))) FitsParcel parcel parcel_tags (pair-wire identifier-wire (pair-wire piece-wire (pair-wire (plain-list (plain-pair identifier-wire record-wire)) (list-wire row-wire))))
    (λ v f. record { prefix = f.0; piece = f.1.0; records = f.1.1.0; rows = f.1.1.1 }) (λ w f. (f.prefix, (f.piece, (f.records, f.rows)))) (λ v. refl) (λ w s. s)

-- what is asked for a path, what is given as one, and why none is given
path_ask-wire : IsWire (pair_at identifier_at identifier_at) (FitsPair IsId IsId)
    (pair identifier identifier) (λ p. plain (pair identifier identifier p))
path_ask-wire = plain-pair identifier-wire identifier-wire

path_grant-wire : IsWire (pair_at path_lease_at (pair_at identifier_at (list_at identifier_at)))
    (FitsPair FitsPathLease (FitsPair IsId (FitsList IsId)))
    (pair path_lease (pair identifier (list identifier))) (λ p. plain (pair path_lease (pair identifier (list identifier)) p))
path_grant-wire = plain-pair path_lease-wire (plain-pair identifier-wire (plain-list identifier-wire))

path_no-wire : IsWire (pair_at identifier_at why_at) (FitsPair IsId FitsWhy)
    (pair identifier why) (λ p. plain (identifier p.0) ++ one_tag (why p.1))
path_no-wire = pair-wire identifier-wire why-wire

-- each tag of a message between servers is one of these
abbrev is_listed : ℕ → Bool
is_listed b = not (is_peer_tag b) || (eqb b 33 || (eqb b 34 || (eqb b 35 || (eqb b 36 || (eqb b 37
    || (eqb b 38 || (eqb b 39 || (eqb b 40 || (eqb b 41 || eqb b 42)))))))))

last-tag : (tag : ℕ) → tag < 256 → is_peer_tag tag ≡ true → eqb tag 33 ≡ false → eqb tag 34 ≡ false → eqb tag 35 ≡ false
    → eqb tag 36 ≡ false → eqb tag 37 ≡ false → eqb tag 38 ≡ false → eqb tag 39 ≡ false → eqb tag 40 ≡ false → eqb tag 41 ≡ false → tag ≡ 42
last-tag tag lt passes a b c d e f g h i =
    let listed = implied _ _ (agree_below_at is_listed (λ b. true) 256 tag refl lt) passes in
    let led = other _ _ (other _ _ (other _ _ (other _ _ listed a) b) c) d in
    eqb-true tag 42 (other _ _ (other _ _ (other _ _ (other _ _ (other _ _ led e) f) g) h) i)

pub peer-reads : {test : ℕ → Bool} (tag : ℕ) (t : List ℕ) → IsOne test tag t → is_peer_tag tag ≡ true → IsReader (peer_of tag) (λ w u. Spelled FitsPeerMessage peer_message w (t ++ u))
unfolding peer_message
peer-reads tag t q passes =
    either-reader _ _ _ _ (λ e. arm _ 33 q (eqb-true tag 33 e) prepare-wire (λ v f. f) (λ v. refl)) (λ e33.
    either-reader _ _ _ _ (λ e. arm _ 34 q (eqb-true tag 34 e) voted-wire (λ v f. f) (λ v. refl)) (λ e34.
    either-reader _ _ _ _ (λ e. arm _ 35 q (eqb-true tag 35 e) decide-wire (λ v f. f) (λ v. refl)) (λ e35.
    either-reader _ _ _ _ (λ e. arm _ 36 q (eqb-true tag 36 e) done-wire (λ v f. f) (λ v. refl)) (λ e36.
    either-reader _ _ _ _ (λ e. arm _ 37 q (eqb-true tag 37 e) parcel-wire (λ v f. f) (λ v. refl)) (λ e37.
    either-reader _ _ _ _ (λ e. arm _ 38 q (eqb-true tag 38 e) path_ask-wire (λ v f. f) (λ v. refl)) (λ e38.
    either-reader _ _ _ _ (λ e. arm _ 39 q (eqb-true tag 39 e) path_grant-wire (λ v f. (f.0, f.1.0, f.1.1)) (λ v. refl)) (λ e39.
    either-reader _ _ _ _ (λ e. arm _ 40 q (eqb-true tag 40 e) path_no-wire (λ v f. f) (λ v. refl)) (λ e40.
    either-reader _ _ _ _ (λ e. arm _ 41 q (eqb-true tag 41 e) path_lease-wire (λ v f. f) (λ v. refl)) (λ e41.
    arm _ 42 q (last-tag tag q.below passes e33 e34 e35 e36 e37 e38 e39 e40 e41) path_lease-wire (λ v f. f) (λ v. refl))))))))))

pub peer-says : (m : PeerMsg) → FitsPeerMessage m → IsBehind peer_of is_peer_tag m (peer_message m) (peer_tags m)
unfolding peer_message peer_tags either_at
peer-says (peer_.Prepare m) fits = behind 33 (omega arith) refl (says-map (λ x. peer_.Prepare x) (prepare-wire.says m fits)) refl refl
peer-says (peer_.Vote m) fits = behind 34 (omega arith) refl (says-map (λ x. peer_.Vote x) (voted-wire.says m fits)) refl refl
peer-says (peer_.Decide m) fits = behind 35 (omega arith) refl (says-map (λ x. peer_.Decide x) (decide-wire.says m fits)) refl refl
peer-says (peer_.Done m) fits = behind 36 (omega arith) refl (says-map (λ x. peer_.Done x) (done-wire.says m fits)) refl refl
peer-says (peer_.Parcel p) fits = behind 37 (omega arith) refl (says-map (λ x. peer_.Parcel x) (parcel-wire.says p fits)) refl refl
peer-says (peer_.PathAsk x y) fits =
    behind 38 (omega arith) refl (says-map (λ p. peer_.PathAsk p.0 p.1) (path_ask-wire.says (x, y) fits)) refl refl
peer-says (peer_.PathGrant g x xs) fits =
    behind 39 (omega arith) refl (says-map (λ p. peer_.PathGrant p.0 p.1.0 p.1.1)
    (path_grant-wire.says (g, (x, xs)) (fits.0, (fits.1, fits.2)))) refl refl
peer-says (peer_.PathNo x w) fits =
    behind 40 (omega arith) refl (says-map (λ p. peer_.PathNo p.0 p.1) (path_no-wire.says (x, w) fits)) refl refl
peer-says (peer_.PathRecall g) fits =
    behind 41 (omega arith) refl (says-map (λ x. peer_.PathRecall x) (path_lease-wire.says g fits)) refl refl
peer-says (peer_.PathRelease g) fits =
    behind 42 (omega arith) refl (says-map (λ x. peer_.PathRelease x) (path_lease-wire.says g fits)) refl refl
