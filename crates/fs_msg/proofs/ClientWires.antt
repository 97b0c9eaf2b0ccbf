-- Clients' messages behind their tags.
use Rattle.std.proofs.Common.{◌≡◌, ℕ, ◌<◌, not, ◌||◌, Bool, true, false, eqb, List, ◌++◌, refl, arith}
use Rattle.std.proofs.lemmas.Bool.{eqb-true, agree_below_at}
use Rattle.fs_msg.specs.declared.client_msg.ClientMsg.{ClientMsg}
use Rattle.fs_msg.specs.declared.client_msg.ClientMsg.TheVariants as client_
use Rattle.fs_wire.specs.Readers.{either_at}
use Rattle.fs_wire.proofs.Readers.{IsOne, IsReader, either-reader}
use Rattle.fs_wire.proofs.Says.{says-map}
use Rattle.fs_wire.proofs.Behind.{IsBehind, behind, other, implied}
use Rattle.fs_wire.proofs.Wires.{Spelled, arm, pair-wire, plain-pair, plain-option}
use Rattle.fs_wire.proofs.NumberWires.{list-wire, plain-list}
use Rattle.fs_wire.proofs.SmallWires.{lease_kind-wire, lease-wire}
use Rattle.fs_wire.proofs.NameWires.{identifier-wire}
use Rattle.fs_wire.proofs.FieldWires.{field-wire}
use Rattle.fs_msg.specs.Spelling.{client_message}
use Rattle.fs_msg.specs.Ranges.{FitsClientMessage}
use Rattle.fs_msg.specs.Tags.{client_tags}
use Rattle.fs_msg.specs.Reading.{is_client_tag, client_of}
use Rattle.fs_msg.proofs.EntryWires.{entry-wire}
use Rattle.fs_msg.proofs.LedWires.{lead-wire}

-- each tag of a client is one of these
abbrev is_listed : ℕ → Bool
is_listed b = not (is_client_tag b) || (eqb b 1 || (eqb b 2 || (eqb b 3 || (eqb b 4 || eqb b 5))))

last-tag : (tag : ℕ) → tag < 256 → is_client_tag tag ≡ true → eqb tag 1 ≡ false → eqb tag 2 ≡ false → eqb tag 3 ≡ false → eqb tag 4 ≡ false → tag ≡ 5
last-tag tag lt passes a b c d =
    let listed = implied _ _ (agree_below_at is_listed (λ b. true) 256 tag refl lt) passes in
    eqb-true tag 5 (other _ _ (other _ _ (other _ _ (other _ _ listed a) b) c) d)

pub client-reads : {test : ℕ → Bool} (tag : ℕ) (t : List ℕ) → IsOne test tag t → is_client_tag tag ≡ true → IsReader (client_of tag) (λ w u. Spelled FitsClientMessage client_message w (t ++ u))
unfolding client_message
client-reads tag t q passes =
    either-reader _ _ _ _ (λ e. arm _ 1 q (eqb-true tag 1 e) (pair-wire (list-wire (pair-wire field-wire lease_kind-wire)) (plain-option identifier-wire)) (λ v f. f) (λ v. refl)) (λ e1.
    either-reader _ _ _ _ (λ e. arm _ 2 q (eqb-true tag 2 e) (plain-list (plain-pair identifier-wire lease-wire)) (λ v f. f) (λ v. refl)) (λ e2.
    either-reader _ _ _ _ (λ e. arm _ 3 q (eqb-true tag 3 e) (plain-list (plain-pair identifier-wire lease-wire)) (λ v f. f) (λ v. refl)) (λ e3.
    either-reader _ _ _ _ (λ e. arm _ 4 q (eqb-true tag 4 e) (list-wire entry-wire) (λ v f. f) (λ v. refl)) (λ e4.
    arm _ 5 q (last-tag tag q.below passes e1 e2 e3 e4) lead-wire (λ v f. f) (λ v. refl)))))

pub client-says : (m : ClientMsg) → FitsClientMessage m → IsBehind client_of is_client_tag m (client_message m) (client_tags m)
unfolding client_message client_tags either_at
client-says (client_.Ask items fresh) fits = behind 1 (omega arith) refl (says-map (λ p. client_.Ask p.0 p.1) ((pair-wire (list-wire (pair-wire field-wire lease_kind-wire)) (plain-option identifier-wire)).says (items, fresh) fits)) refl refl
client-says (client_.Renew pairs) fits = behind 2 (omega arith) refl (says-map (λ x. client_.Renew x) ((plain-list (plain-pair identifier-wire lease-wire)).says pairs fits)) refl refl
client-says (client_.Release pairs) fits = behind 3 (omega arith) refl (says-map (λ x. client_.Release x) ((plain-list (plain-pair identifier-wire lease-wire)).says pairs fits)) refl refl
client-says (client_.Ship entries) fits = behind 4 (omega arith) refl (says-map (λ x. client_.Ship x) ((list-wire entry-wire).says entries fits)) refl refl
client-says (client_.Lead m) fits = behind 5 (omega arith) refl (says-map (λ x. client_.Lead x) (lead-wire.says m fits)) refl refl
