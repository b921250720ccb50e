-- Where the await that `Await::at` gives is rendered, and nothing is written where it gives none, that is the line of the await.
use Rattle.std.proofs.Common.{◌≡◌, ℕ, ◌+◌, List, get_or, Option, None, Some, subst}
use Rattle.std.specs.Prelude.{MatchOption}
use Rattle.listing.specs.declared.awaits.Await.{Await}
use Rattle.listing.specs.Lines.{await_line, slots_at}
use Rattle.listing.specs.Text.{Rendered, Held, AwaitRendered}
use Rattle.listing.specs.Awaits.{await_text}

pub await_rendered : (v : List ℕ) (w at : ℕ) (entry exit : List ℕ) (r : ℕ) (line : Option Await)
    → MatchOption line (¬ (Held v w at)) (λ a. Held v w at × (await_text a ≡ await_line (get_or v at 0) (slots_at v w (at + 1))))
    → MatchOption line ((r ≡ 0) × (exit ≡ entry)) (λ a. Rendered entry exit (await_text a) r) → AwaitRendered v w at entry exit r
await_rendered v w at entry exit r None h p = record { there = λ k. absurd (h k); missing = λ _. p }
await_rendered v w at entry exit r (Some a) h p = record {
  there = λ _. subst (λ (line : List ℕ). Rendered entry exit line r) h.1 p;
  missing = λ k. absurd (k h.0);
}
