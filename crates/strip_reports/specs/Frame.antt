-- The fixed lines before and behind what the page has of a film.
use Rattle.std.specs.Prelude.{ℕ, List, [], ◌∷◌, ◌++◌, codes}
use Rattle.std.specs.List.{flat_map}

-- the head, whose policy allows its own style alone, and nothing that is loaded
abbrev pub head_lines : List (List ℕ)
head_lines =
    codes "<!DOCTYPE html>"
    ∷ codes "<html lang=\"en\">"
    ∷ codes "<head>"
    ∷ codes "<meta charset=\"utf-8\">"
    ∷ codes "<meta http-equiv=\"Content-Security-Policy\" content=\"default-src 'none'; style-src 'sha256-l9Gf1oK2vHeNqgX452a/JS4pVptrw9V0ihtq4pSDosI='\">"
    ∷ codes "<title>Strip board</title>"
    ∷ codes "<style>"
    ∷ codes "@page { size: landscape; margin: 10mm }"
    ∷ codes "body { font: 9pt sans-serif }"
    ∷ codes "table { border-collapse: collapse; margin-bottom: 5mm }"
    ∷ codes "thead { display: table-header-group; break-inside: avoid }"
    ∷ codes "tr { break-inside: avoid }"
    ∷ codes "th, td { border: 1px solid; padding: 1px 3px; vertical-align: bottom }"
    ∷ codes "th { font-weight: normal }"
    ∷ codes "td { text-align: right }"
    ∷ codes "bdi { white-space: pre-wrap; overflow-wrap: anywhere }"
    ∷ codes ".name { min-width: 30mm; max-width: 60mm; text-align: left }"
    ∷ codes ".upright { writing-mode: vertical-rl; text-align: left }"
    ∷ codes ".upright bdi { display: inline-block; max-height: 35mm }"
    ∷ codes ".works, .held { text-align: center }"
    ∷ codes ".works, .warning { font-weight: bold }"
    ∷ codes ".totals { border-top: 3px double }"
    ∷ codes "</style>"
    ∷ codes "</head>"
    ∷ codes "<body>"
    ∷ codes "<h1>Strip board</h1>"
    ∷ []

abbrev pub end_lines : List (List ℕ)
end_lines = codes "</body>" ∷ codes "</html>" ∷ []

-- lines, each with a line feed
abbrev pub lines_text : List (List ℕ) → List ℕ
lines_text lines = flat_map (λ line. line ++ codes "\n") lines

abbrev pub page_head : List ℕ
page_head = lines_text head_lines

abbrev pub page_end : List ℕ
page_end = lines_text end_lines
