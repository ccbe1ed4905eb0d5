-- Tickets: their digests are complete, and walks in their views give the lists of their causal reads.
use Rattle.nw_book.proofs.Words.{◌≡◌, ℕ, List, [], ◌∷◌, ◌++◌, Result, Ok, Err, ap, sym, subst, ◌∙◌, IfOk, Digest, Block, Meaning, State, IsComplete, Frozen, Shows, HasBlock, IsWalk, Bounds, after, IsReply, AreReplies, replay, Event, digest_of, admitted_left, there_held, Story, IsLegalStory, terms_of, bounds_of, state_of, with_event}
use Rattle.std.specs.Prelude.{All}
use Rattle.std.proofs.lemmas.List.Elements.{All-weaker}
use Rattle.nw_model.specs.Sound.{IsSound}
use Rattle.nw_model.specs.declared.call.Call.TheVariants as calls
use Rattle.nw_model.specs.declared.reply.Reply.TheVariants as replies
use Rattle.nw_model.specs.Checks.{IsWellFormed}
use Rattle.nw_model.proofs.Replayed.{legal_sound}
use Rattle.nw_model.proofs.Views.{complete_there, walk_is_causal}
use Rattle.nw_causal.specs.declared.ancestor.Ancestor.{Ancestor}
use Rattle.nw_causal.specs.Looked.{AreUnderTheirDigests}
use Rattle.nw_book.specs.Ticket.{TicketView, IsTicket, IsTicketWith}
use Rattle.nw_book.specs.Turn.{event}
use Rattle.nw_book.proofs.Longer.{replay_last}

-- the last reply is that of the step after the events before it
reply_last : (b : Bounds) (s : State) (es : List Event) (e : Event) → AreReplies b s (es ++ e ∷ []) → IsReply b (replay b s es) e.call e.reply
reply_last b s [] e h = h.0
reply_last b s (x ∷ es) e h = reply_last b (after b s x.call) es e h.2

-- a ticket's digest is complete after its front
pub ticket_complete : (accepts : Meaning) (t : TicketView) → IsTicket accepts t → IsComplete (state_of t.front) t.digest
ticket_complete accepts t h =
    let b : Bounds = bounds_of t.front.limits in
    let es : List Event = h.last.0 in
    let e : Event = event h.last.1 h.last.2 (calls.Causal t.digest) replies.Ready in
    let replies : AreReplies b t.front.base (es ++ e ∷ []) = subst (AreReplies b t.front.base) h.last.3 h.legal.replies in
    let whole : IsComplete (replay b t.front.base es) t.digest = reply_last b t.front.base es e replies in
    let same : replay b t.front.base es ≡ state_of t.front = sym (ap (replay b t.front.base) h.last.3 ∙ replay_last b t.front.base es e) in
    subst (λ s. IsComplete s t.digest) same whole

-- a legal history leaves a sound state
pub story_sound : (accepts : Meaning) (s : Story) → IsLegalStory accepts s → IsSound (state_of s)
story_sound accepts s legal = legal_sound accepts (terms_of s) s.base s.events legal

-- a ticket's digest is in its view
pub ticket_there : (accepts : Meaning) (t : TicketView) (v : Frozen) → IsTicketWith accepts t v → (b : Block) × HasBlock v t.digest b
ticket_there accepts t v h =
    let whole : IsComplete (state_of t.front) t.digest = ticket_complete accepts t h.ticket in
    let stands = whole.stands in
    (stands.0, complete_there v (state_of t.front) t.digest stands.0 (story_sound accepts t.front h.ticket.legal).blocks_kept h.shows whole stands.1)

-- a walk in a ticket's view is the list of its causal read
pub ticket_walk : (accepts : Meaning) (t : TicketView) (v : Frozen) (blocks : List Block) → IsTicketWith accepts t v → IsWalk v t.digest blocks
    → IsReply (bounds_of t.front.limits) (state_of t.front) (calls.Causal t.digest) (replies.List blocks)
ticket_walk accepts t v blocks h walk =
    let whole : IsComplete (state_of t.front) t.digest = ticket_complete accepts t h.ticket in
    (whole, walk_is_causal v (state_of t.front) t.digest blocks (story_sound accepts t.front h.ticket.legal).blocks_kept h.shows whole walk)

-- the front that ends with a causal read, and a view of the complete blocks before that read, make a ticket
pub opened : (accepts : Meaning) (old front : Story) (session number : ℕ) (d : Digest) (v : Frozen) → front ≡ with_event old (event session number (calls.Causal d) replies.Ready) → IsLegalStory accepts front
    → Shows v (state_of old) → IsTicketWith accepts (record { digest = d; front = front }) v
opened accepts old front session number d v is legal shows =
    let e : Event = event session number (calls.Causal d) replies.Ready in
    let same : state_of front ≡ state_of old = ap state_of is ∙ replay_last (bounds_of old.limits) old.base old.events e in
    record {
      ticket = record { legal = legal; last = (old.events, session, number, ap (λ (s : Story). s.events) is) };
      shows = subst (Shows v) (sym same) shows;
    }

-- if a walk in a ticket's view succeeds, each block is held under its digest and well formed; P follows from that
pub ticket_each : {W E : Type 0} (walked : W → List Ancestor) (P : Ancestor → Type 0) (accepts : Meaning) (t : TicketView) (v : Frozen) (r : Result W E)
    → ((a : Ancestor) → (a.digest.now ≡ digest_of a.block.now) × IsWellFormed accepts t.front.committee a.block.now → P a)
    → IsTicketWith accepts t v → IfOk r (λ walk. AreUnderTheirDigests v (walked walk)) → IfOk r (λ walk. All P (walked walk))
ticket_each walked P accepts t v (Ok walk) follows h under =
    All-weaker (λ (a : Ancestor). HasBlock v a.digest.now a.block.now) P
    (λ a there. follows a ((admitted_left accepts (terms_of t.front) t.front.base t.front.events h.ticket.legal).blocks a.digest.now a.block.now
    (there_held v (state_of t.front) a.digest.now a.block.now h.shows there))) (walked walk) under
ticket_each walked P accepts t v (Err e) follows h under = tt

-- if a walk in a ticket's view succeeds, its blocks are the list of the ticket's causal read
pub ticket_walks : {W E : Type 0} (blocks : W → List Block) (accepts : Meaning) (t : TicketView) (v : Frozen) (r : Result W E) → IsTicketWith accepts t v → IfOk r (λ walk. IsWalk v t.digest (blocks walk))
    → IfOk r (λ walk. IsReply (bounds_of t.front.limits) (state_of t.front) (calls.Causal t.digest) (replies.List (blocks walk)))
ticket_walks blocks accepts t v (Ok walk) h walked = ticket_walk accepts t v (blocks walk) h walked
ticket_walks blocks accepts t v (Err e) h walked = tt
