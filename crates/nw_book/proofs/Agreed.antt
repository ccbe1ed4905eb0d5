-- What the views of two tickets show about their causal reads.
use Rattle.nw_book.proofs.Words.{◌≡◌, List, Result, Ok, Err, sym, subst, ◌∙◌, IfOk, Digest, Block, Meaning, State, digest_of, IsComplete, Frozen, Shows, HasBlock, IsWalk, admitted_left, there_held, terms_of, state_of}
use Rattle.std.specs.FinMap.{get}
use Rattle.nw_model.specs.Sound.{HasNoBlocksBelowFloor}
use Rattle.nw_model.specs.Paths.{IsCausalList}
use Rattle.nw_model.specs.View.{IsAncestorIn}
use Rattle.nw_digest.proofs.Elements.{same_map}
use Rattle.nw_model.proofs.Views.{ancestors_shown, last_there}
use Rattle.nw_causal.specs.Agreement.{IsAgreement}
use Rattle.nw_causal.specs.declared.agreement.Agreement.{Agreement}
use Rattle.nw_causal.specs.declared.agreement.Agreement.TheVariants as agreements
use Rattle.nw_book.specs.Ticket.{TicketView, IsTicketWith, IsListOf, IsHeldAfter, IsAgreed}
use Rattle.nw_book.proofs.Opened.{story_sound, ticket_there, ticket_walk}

-- ---- a causal list is a walk

-- the causal list of a complete block is its walk in a view that shows the state
causal_is_walk : (v : Frozen) (s : State) (d : Digest) (blocks : List Block) → HasNoBlocksBelowFloor s → Shows v s → IsComplete s d → IsCausalList s d blocks → IsWalk v d blocks
causal_is_walk v s d blocks kept shows whole causal = record {
  digests = causal.digests;
  found = same_map (get v.blocks) (get s.blocks) causal.digests (λ a among.
      let ancestor : IsAncestorIn v d a = (ancestors_shown v s d kept shows whole a).1 ((causal.exactly a).0 among) in
      let last = last_there v d ancestor.0 a ancestor.1 in
      last.1.0 ∙ sym (there_held v s a last.0 shows last.1)) ∙ causal.found;
  exactly = λ a. (
    λ among. (ancestors_shown v s d kept shows whole a).1 ((causal.exactly a).0 among),
    λ ancestor. (causal.exactly a).1 ((ancestors_shown v s d kept shows whole a).0 ancestor),
  );
  ascending = causal.ascending;
}

-- the list of the ticket's causal read is the walk in the ticket's view
list_is_walk : (accepts : Meaning) (t : TicketView) (v : Frozen) (blocks : List Block) → IsTicketWith accepts t v → IsListOf t blocks → IsWalk v t.digest blocks
list_is_walk accepts t v blocks h is = causal_is_walk v (state_of t.front) t.digest blocks (story_sound accepts t.front h.ticket.legal).blocks_kept h.shows is.0 is.1

-- ---- blocks in a view

-- the block that a ticket's view has under a digest is held after the front, and has that digest
held_after : (accepts : Meaning) (t : TicketView) (v : Frozen) (d : Digest) (b : Block) → IsTicketWith accepts t v → HasBlock v d b → IsHeldAfter t.front d b × (digest_of b ≡ d)
held_after accepts t v d b h there =
    let held = (h.shows.complete d b).0 there in
    let own = (admitted_left accepts (terms_of t.front) t.front.base t.front.events h.ticket.legal).blocks d b held.0 in
    (record { held = held.0; kept = held.1; complete = held.2 }, sym own.0)

-- ---- two tickets for one digest

-- the digest of one ticket is also in the view of the other
pub other_there : (accepts : Meaning) (d : Digest) (u : TicketView) (w : Frozen) → IsTicketWith accepts u w → d ≡ u.digest → (b : Block) × HasBlock w d b
other_there accepts d u w k same =
    let there = ticket_there accepts u w k in
    (there.0, subst (λ q. HasBlock w q there.0) (sym same) there.1)

-- an agreement of the walks in the views is an agreement of the tickets
agreed : (accepts : Meaning) (t u : TicketView) (v w : Frozen) → IsTicketWith accepts t v → IsTicketWith accepts u w → t.digest ≡ u.digest → (a : Agreement) → IsAgreement v w t.digest a → IsAgreed t u a
agreed accepts t u v w h k same agreements.Same walks =
    (walks.0, ticket_walk accepts t v walks.0 h walks.1, ticket_walk accepts u w walks.0 k (subst (λ d. IsWalk w d walks.0) same walks.2))
agreed accepts t u v w h k same (agreements.Collision b c) (apart, (d, (in_one, in_other, differ))) =
    let first = held_after accepts t v d b h in_one in
    let second = held_after accepts u w d c k in_other in (
      λ lists. apart (lists.0, list_is_walk accepts t v lists.0 h lists.1, subst (λ q. IsWalk w q lists.0) (sym same) (list_is_walk accepts u w lists.0 k lists.2)),
      (d, first.0, second.0, record { differ = differ; first = first.1; second = second.1 }),
    )

-- if the comparison succeeds, an agreement of the walks in the views is an agreement of the tickets
pub tickets_agree : {E : Type 0} (accepts : Meaning) (t u : TicketView) (v w : Frozen) (r : Result Agreement E) → IsTicketWith accepts t v → IsTicketWith accepts u w → t.digest ≡ u.digest
    → IfOk r (λ a. IsAgreement v w t.digest a) → IfOk r (λ a. IsAgreed t u a)
tickets_agree accepts t u v w (Ok a) h k same is = agreed accepts t u v w h k same a is
tickets_agree accepts t u v w (Err e) h k same is = tt
