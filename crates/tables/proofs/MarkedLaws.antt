-- Of the marked table each row holds: what is computed over the whole table holds of each row. Assumes nothing.
use Rattle.std.specs.Prelude.{ℕ, ◌≡◌, List, get_or}
use Rattle.std.proofs.Common.{sym, ap₂, ◌∙◌}
use Rattle.std.proofs.Math.ListN.{get_or-map}
use Rattle.tables.specs.Marked.{Response, response, Row, table, marked}

-- each row holds by its place
pub marked_at : (i : ℕ) (d : Row) → response d.asked ≡ d.expected → response (get_or table i d).asked ≡ (get_or table i d).expected
marked_at i d e =
    sym (get_or-map (λ (r : Row). response r.asked) table i d)
    ∙ ap₂ (λ (l : List Response) (x : Response). get_or l i x) marked e
    ∙ get_or-map (λ (r : Row). r.expected) table i d
