mod SpaceLemmas
