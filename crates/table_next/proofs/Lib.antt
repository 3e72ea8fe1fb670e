mod LimitedTaken
